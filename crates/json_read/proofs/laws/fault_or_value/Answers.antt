use Rattle.json_read.proofs.OneFault.{fault_or_value}
use Rattle.json_read.proofs.laws.fault_or_value.Goals as goal

pub returns : goal.returns
returns c = fault_or_value c.one_number.ensures
