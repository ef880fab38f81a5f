use Rattle.model_life.proofs.resolution.Changes.{same_resolved}
use Rattle.model_life.proofs.resolution.laws.resolved_in_both.Goals as goal

pub returns : goal.returns
returns c = same_resolved
