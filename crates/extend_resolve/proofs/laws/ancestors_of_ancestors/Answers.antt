use Rattle.extend_resolve.proofs.Ancestors.{ancestor-trans}
use Rattle.extend_resolve.proofs.laws.ancestors_of_ancestors.Goals as goal

pub returns : goal.returns
returns c set i a b = ancestor-trans set i a b
