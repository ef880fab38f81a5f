use Rattle.json_decimal.proofs.Unique.{same_number}
use Rattle.json_decimal.proofs.read.same_number.Goals as goal

pub returns : goal.returns
returns c = same_number
