use Rattle.model_life.proofs.sets.Looking.{uploads_ordered, uploads_same}
use Rattle.model_life.proofs.sets.Sound.{new_apart, with_sound}
use Rattle.model_life.proofs.sets.laws.join_soundly.Goals as goal

pub returns-clause-rules : goal.returns-clause-rules
returns-clause-rules c set new sorted rules absent sound = with_sound set new sorted absent sound rules

pub returns-clause-ordered : goal.returns-clause-ordered
returns-clause-ordered c set new sorted absent sound = uploads_ordered new set sorted absent (new_apart set new sorted absent sound)

pub returns-clause-same : goal.returns-clause-same
returns-clause-same c set new sorted absent sound = uploads_same new set absent (new_apart set new sorted absent sound)
