use Rattle.json_tree.specs.View.{view}
use Rattle.twin_value.specs.Breaches.{library_of}
use Rattle.twin_value.proofs.Bodies.{model_told}
use Rattle.twin_value.proofs.twin.read_twin.Goals as goal

pub twin_with-requires : goal.twin_with-requires
twin_with-requires c = model_told (library_of c.args.resolved.now) c.args.resolved.now.contents (view c.args.tree.now) c.in_ok-values.ensures.0
