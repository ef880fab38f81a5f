use Rattle.model_life.proofs.sets.Sound.{same_rules}
use Rattle.model_life.proofs.sets.laws.one_judgement.Goals as goal

pub returns : goal.returns
returns c = same_rules
