use Rattle.std.proofs.Common.{Some, ap, sym, ◌∙◌, bytes_eq}
use Rattle.dtdl_terms.specs.declared.resolved.ResolvedContent.{ResolvedContent}
use Rattle.twin_value.specs.Named.{is_called}
use Rattle.twin_value.proofs.Linked.{find_on, find_here, find_past}
use Rattle.twin_value.proofs.link.find_content.Goals as goal

pub loop-content-preserved : goal.loop-content-preserved
loop-content-preserved c =
    find_on (λ (x : ResolvedContent). is_called c.args.name.now (Some x.content.name)) c.args.contents.now c.loop-content.content-index c.content-item.result c.loop-content-test.true c.content-item.is
    (ap (λ t. bytes_eq t c.args.name.now) (sym c.as_str.ensures.same) ∙ (sym c.eq.ensures ∙ c.if-eq.false))
    ∙ c.loop-content.invariant

pub returns-then-eq : goal.returns-then-eq
returns-then-eq c =
    sym (find_here (λ (x : ResolvedContent). is_called c.args.name.now (Some x.content.name)) c.args.contents.now c.loop-content.content-index c.content-item.result c.loop-content-test.true c.content-item.is
    (ap (λ t. bytes_eq t c.args.name.now) (sym c.as_str.ensures.same) ∙ (sym c.eq.ensures ∙ c.if-eq.true)))
    ∙ c.loop-content.invariant

pub returns : goal.returns
returns c =
    sym (find_past (λ (x : ResolvedContent). is_called c.args.name.now (Some x.content.name)) c.args.contents.now c.loop-content.content-index c.loop-content-test.false) ∙ c.loop-content.invariant
