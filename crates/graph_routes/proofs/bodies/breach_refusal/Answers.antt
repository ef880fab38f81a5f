use Rattle.json_tree.specs.View.{view}
use Rattle.graph_routes.proofs.Stands.{breach_stands}
use Rattle.graph_routes.proofs.bodies.breach_refusal.Goals as goal

pub pointer_of-requires : goal.pointer_of-requires
pointer_of-requires c = breach_stands (view c.args.tree.now) c.args.place.now.steps c.args.rule c.requires.breach
