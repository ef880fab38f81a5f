use Rattle.dt_base.specs.names.Grammar.{dtmi_text}
use Rattle.dtdl_terms.specs.declared.resolved.NamedIn.{NamedIn}
use Rattle.std.proofs.Common.{Some}
use Rattle.twin_value.specs.Named.{is_called}
use Rattle.twin_value.proofs.Indexed.{had_more}
use Rattle.twin_value.proofs.library.schemas_of.Goals as goal

pub loop-one-preserved : goal.loop-one-preserved
loop-one-preserved c = λ q.
    had_more (λ (n : NamedIn). n.schemas) (λ (n : NamedIn). is_called q (Some (dtmi_text n.of))) c.args.named.now c.loop-one.one-index c.one-item.result c.loop-one-test.true c.one-item.is _ _
    (c.loop-one.invariant q) (c.in-Ok.ensures q)
