use Rattle.std.proofs.Common.{◌≡◌, not, ◌≤◌, if◌then◌else◌}
use Rattle.graph_steps.specs.Conditions.{holds}
use Rattle.query_eval.specs.values.Rows.{row_view}
use Rattle.query_terms.specs.Conditions.{condition}
use Rattle.query_terms.specs.declared.cond.Cond.{size-Cond}
use Rattle.query_eval.proofs.conditions.holding.+holds.Given as goal

abbrev pub decreases-holds : goal.decreases-holds
decreases-holds g l = goal.size-holds g l

-- what is left, turned or not, is whether the condition holds, and stands within it
abbrev pub invariant-parts : goal.invariant-parts
invariant-parts g l =
    ((if l.turned then not (holds (g.V.GraphView.state l.view) (row_view l.row) (condition l.left)) else holds (g.V.GraphView.state l.view) (row_view l.row) (condition l.left))
    ≡ holds (g.V.GraphView.state l.view) (row_view l.row) (condition l.cond))
    × (size-Cond l.left ≤ size-Cond l.cond)
