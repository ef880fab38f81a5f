use Rattle.std.proofs.Common.{sym}
use Rattle.std.proofs.lemmas.Bool.{eqb-true, eqb-false}
use Rattle.dt_base.specs.declared.names.walk.State.TheVariants.{NameStart}
use Rattle.dt_base.specs.names.Grammar.{NameText}
use Rattle.dt_base.specs.names.Machinery.Walking.{need}
use Rattle.dt_base.proofs.names.Reading.{reads_names, cut_short, text_at_end}
use Rattle.dt_base.proofs.names.name.finished.Goals as goal

pub returns-then-ends : goal.returns-then-ends
returns-then-ends c =
    text_at_end NameText NameStart 64 reads_names c.args.bytes.now c.args.state c.requires.walked
    (eqb-true (need c.args.state) 0 (sym c.if-ends.ensures))

pub returns-else-ends : goal.returns-else-ends
returns-else-ends c = (
  c.requires.some,
  cut_short NameText NameStart 64 reads_names c.args.bytes.now c.args.state c.requires.walked
      (eqb-false (need c.args.state) 0 (sym c.if-ends.ensures)),
)
