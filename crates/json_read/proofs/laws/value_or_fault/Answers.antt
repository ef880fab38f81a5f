use Rattle.json_read.proofs.Outcomes.{value_or_fault}
use Rattle.json_read.proofs.laws.value_or_fault.Goals as goal

pub returns : goal.returns
returns c = value_or_fault
