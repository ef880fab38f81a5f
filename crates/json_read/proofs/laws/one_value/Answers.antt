use Rattle.json_read.proofs.Spelled.{one_spelled}
use Rattle.json_read.proofs.laws.one_value.Goals as goal

pub returns : goal.returns
returns c = one_spelled c.one_number.ensures
