use Rattle.model_life.proofs.resolution.Changes.{held_with_less}
use Rattle.model_life.proofs.resolution.laws.held_rest_right.Goals as goal

pub returns : goal.returns
returns c set id table sound sorted free ordered right = held_with_less set id sound sorted free table ordered right
