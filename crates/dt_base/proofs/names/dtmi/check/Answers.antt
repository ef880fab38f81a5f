use Rattle.std.proofs.Common.{sym, subst, arith}
use Rattle.dt_base.specs.declared.names.fault.NameFault.{NameFault}
use Rattle.dt_base.specs.names.Faults.{RefusesDtmi}
use Rattle.dt_base.proofs.names.Past.{refused}
use Rattle.dt_base.proofs.names.dtmi.check.Goals as goal

pub returns-in-Wrong : goal.returns-in-Wrong
returns-in-Wrong c =
    subst (λ (f : NameFault). RefusesDtmi c.args.bytes.now f) (sym c.wrong.ensures)
    (refused c.args.bytes.now c.in-Wrong.at c.in-Wrong.state (omega arith) c.in-Wrong.ensures)
