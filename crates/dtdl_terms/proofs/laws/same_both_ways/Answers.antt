use Rattle.dtdl_terms.proofs.SameDeclarations.{interface_back}
use Rattle.dtdl_terms.proofs.laws.same_both_ways.Goals as goal

pub returns : goal.returns
returns c = interface_back
