use Rattle.json_decimal.proofs.Unique.{one_number_of}
use Rattle.json_decimal.proofs.read.one_number.Goals as goal

pub returns : goal.returns
returns c = one_number_of
