use Rattle.json_read.proofs.OneFault.{one_fault}
use Rattle.json_read.proofs.laws.one_fault.Goals as goal

pub returns : goal.returns
returns c = one_fault
