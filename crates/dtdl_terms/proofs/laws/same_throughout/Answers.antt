use Rattle.dtdl_terms.proofs.SameDeclarations.{interface_through}
use Rattle.dtdl_terms.proofs.laws.same_throughout.Goals as goal

pub returns : goal.returns
returns c = interface_through
