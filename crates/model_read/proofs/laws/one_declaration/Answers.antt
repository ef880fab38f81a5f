use Rattle.model_read.proofs.OnceUploads.{document_once}
use Rattle.model_read.proofs.laws.one_declaration.Goals as goal

pub returns : goal.returns
returns c = document_once
