use Rattle.graph_steps.specs.States.{link_object}
use Rattle.graph_steps.specs.bodies.Kept.{link_view}
use Rattle.graph_steps.proofs.bodies.Printed.{printed_so}
use Rattle.graph_steps.proofs.bodies.printing.link_tree.Goals as goal

pub returns : goal.returns
returns c = printed_so c.print_rel.result (link_object (link_view c.args.r.now)) c.requires.distinct c.print_rel.ensures
