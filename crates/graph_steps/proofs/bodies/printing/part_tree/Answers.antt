use Rattle.json_tree.specs.View.{view}
use Rattle.twin_value.specs.Twins.{with_metadata}
use Rattle.graph_steps.proofs.bodies.Printed.{printed_so}
use Rattle.graph_steps.proofs.bodies.printing.part_tree.Goals as goal

pub returns : goal.returns
returns c = printed_so c.print_part.result (with_metadata (view c.args.values.now)) c.requires.distinct c.print_part.ensures
