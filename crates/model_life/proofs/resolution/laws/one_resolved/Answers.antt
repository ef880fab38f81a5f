use Rattle.model_life.proofs.resolution.OneResolved.{one_resolved}
use Rattle.model_life.proofs.resolution.laws.one_resolved.Goals as goal

pub returns : goal.returns
returns c = one_resolved
