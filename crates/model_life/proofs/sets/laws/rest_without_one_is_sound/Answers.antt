use Rattle.model_life.proofs.sets.Sound.{one_gone}
use Rattle.model_life.proofs.sets.laws.rest_without_one_is_sound.Goals as goal

pub returns : goal.returns
returns c set id sorted sound free = one_gone set id sorted sound free
