use Rattle.json_decimal.proofs.SameValues.{one_decimal}
use Rattle.json_decimal.proofs.order.one_decimal.Goals as goal

pub returns : goal.returns
returns c = one_decimal
