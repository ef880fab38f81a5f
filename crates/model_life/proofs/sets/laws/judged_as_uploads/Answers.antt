use Rattle.model_life.proofs.sets.Sound.{as_uploads}
use Rattle.model_life.proofs.sets.laws.judged_as_uploads.Goals as goal

pub returns : goal.returns
returns c = as_uploads
