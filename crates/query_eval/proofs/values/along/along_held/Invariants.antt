use Rattle.std.proofs.Common.{◌≡◌, drop}
use Rattle.json_tree.specs.View.{view}
use Rattle.graph_steps.specs.Conditions.{value_along}
use Rattle.query_eval.proofs.values.along.along_held.Given as goal

-- the names that are left lead on from here to where all lead
abbrev pub invariant-names : goal.invariant-names
invariant-names l = value_along (drop l.name-index l.names) (view l.at) ≡ value_along l.names (view l.tree)
