use Rattle.dtdl_terms.proofs.SameDeclarations.{interface_self}
use Rattle.dtdl_terms.proofs.laws.same_as_itself.Goals as goal

pub returns : goal.returns
returns c = interface_self
