use Rattle.std.proofs.Common.{arith}
use Rattle.dt_base.specs.declared.names.walk.State.TheVariants.{NameStart}
use Rattle.dt_base.specs.names.Grammar.{NameText}
use Rattle.dt_base.proofs.names.Reading.{reads_names, first_wrong}
use Rattle.dt_base.proofs.names.name.check.Goals as goal

pub returns-in-Wrong : goal.returns-in-Wrong
returns-in-Wrong c =
    (omega arith, first_wrong NameText NameStart 64 reads_names c.args.bytes.now c.in-Wrong.at c.in-Wrong.state c.in-Wrong.ensures)
