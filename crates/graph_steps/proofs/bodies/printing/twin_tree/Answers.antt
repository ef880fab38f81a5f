use Rattle.graph_steps.specs.States.{twin_object}
use Rattle.graph_steps.specs.bodies.Kept.{twin_view}
use Rattle.graph_steps.proofs.bodies.Printed.{printed_so}
use Rattle.graph_steps.proofs.bodies.printing.twin_tree.Goals as goal

pub returns : goal.returns
returns c = printed_so c.print_twin.result (twin_object (twin_view c.args.t.now)) c.requires.distinct c.print_twin.ensures
