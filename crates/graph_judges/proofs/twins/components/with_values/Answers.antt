use Rattle.json_tree.specs.View.{view}
use Rattle.graph_steps.proofs.bodies.Patching.{sorted_distinct}
use Rattle.graph_judges.proofs.twins.Kept.{one_brings}
use Rattle.graph_judges.proofs.twins.components.with_values.Goals as goal

pub apply-requires-clause-distinct : goal.apply-requires-clause-distinct
apply-requires-clause-distinct c = sorted_distinct (view c.args.twin.now.parts) c.requires.kept.parts

pub apply-requires-clause-brought : goal.apply-requires-clause-brought
apply-requires-clause-brought c = one_brings c.in_ok-patch.patch c.args.name.now c.args.values c.in_ok-patch.ensures (sorted_distinct (view c.args.values) c.requires.part.sorted)
