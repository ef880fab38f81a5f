use Rattle.model_life.proofs.sets.Looking.{ordered_without}
use Rattle.model_life.proofs.sets.Sound.{rest_sound}
use Rattle.model_life.proofs.sets.laws.rest_is_sound.Goals as goal

pub returns-clause-rules : goal.returns-clause-rules
returns-clause-rules c set ids sorted sound free = rest_sound set ids sorted sound free

pub returns-clause-ordered : goal.returns-clause-ordered
returns-clause-ordered c set ids sorted = ordered_without ids set sorted
