use Rattle.model_life.proofs.Taking.{one_sum}
use Rattle.model_life.proofs.laws.one_sum.Goals as goal

pub returns : goal.returns
returns c = one_sum
