use Rattle.std.proofs.Common.{sym}
use Rattle.json_tree.specs.View.{view}
use Rattle.twin_patch.specs.Operations.{operations_of}
use Rattle.graph_steps.proofs.bodies.Patching.{new_sorted, new_distinct, brings_distinct}
use Rattle.graph_steps.proofs.bodies.patches.patched.Goals as goal

pub apply_in_order-requires-clause-order : goal.apply_in_order-requires-clause-order
apply_in_order-requires-clause-order c = (view c.args.tree, sym c.requires.sorted)

pub apply_in_order-requires-clause-brought : goal.apply_in_order-requires-clause-brought
apply_in_order-requires-clause-brought c = brings_distinct c.requires.read.0 c.args.patch.now c.requires.read.1

pub returns-in-Ok-clause-sorted : goal.returns-in-Ok-clause-sorted
returns-in-Ok-clause-sorted c = new_sorted (operations_of c.args.patch.now.ops) (view c.args.tree) c.requires.sorted (view c.in-Ok.new) c.in-Ok.ensures

pub returns-in-Ok-clause-distinct : goal.returns-in-Ok-clause-distinct
returns-in-Ok-clause-distinct c = new_distinct (operations_of c.args.patch.now.ops) (view c.args.tree) c.requires.sorted (view c.in-Ok.new) c.in-Ok.ensures
