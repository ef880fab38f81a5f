use Rattle.dtdl_terms.proofs.ByName.{contents_by_name}
use Rattle.dtdl_terms.proofs.laws.same_under_a_name.Goals as goal

pub returns : goal.returns
returns c = contents_by_name
