use Rattle.graph_steps.proofs.bodies.Reaching.{is_a_by_ancestors}
use Rattle.graph_steps.proofs.bodies.laws.found_ancestors.Goals as goal

pub returns : goal.returns
returns c = λ set i id sound there. is_a_by_ancestors set id sound i there
