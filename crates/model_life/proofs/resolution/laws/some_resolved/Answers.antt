use Rattle.model_life.proofs.resolution.Existing.{resolved_in, is_resolved_in}
use Rattle.model_life.proofs.resolution.laws.some_resolved.Goals as goal

pub returns : goal.returns
returns c set sound declared sorted i low = (resolved_in set i, is_resolved_in set sound declared sorted i low)
