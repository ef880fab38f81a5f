use Rattle.model_read.proofs.ThereUploads.{all_there}
use Rattle.model_read.proofs.laws.declaration_is_there.Goals as goal

pub returns : goal.returns
returns c = all_there
