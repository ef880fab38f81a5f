use Rattle.model_read.proofs.Documents.{all_within}
use Rattle.model_read.proofs.laws.within_limits.Goals as goal

pub returns : goal.returns
returns c = all_within
