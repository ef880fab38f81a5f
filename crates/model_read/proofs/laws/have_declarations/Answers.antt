use Rattle.model_read.proofs.Documents.{all_have_declarations}
use Rattle.model_read.proofs.laws.have_declarations.Goals as goal

pub returns : goal.returns
returns c = all_have_declarations
