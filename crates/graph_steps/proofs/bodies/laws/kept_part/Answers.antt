use Rattle.graph_steps.proofs.bodies.Keeping.{kept_component}
use Rattle.graph_steps.proofs.bodies.laws.kept_part.Goals as goal

pub returns : goal.returns
returns c = kept_component
