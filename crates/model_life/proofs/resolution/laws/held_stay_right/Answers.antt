use Rattle.model_life.proofs.resolution.Changes.{held_with_more}
use Rattle.model_life.proofs.resolution.laws.held_stay_right.Goals as goal

pub returns : goal.returns
returns c = held_with_more
