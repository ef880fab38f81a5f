use Rattle.std.proofs.Common.{◌≡◌, ◌≤◌, ◌++◌, map, drop, length}
use Rattle.json_tree.specs.View.{view}
use Rattle.graph_steps.specs.States.{link_value}
use Rattle.graph_steps.specs.held.Held.{link_of}
use Rattle.graph_machine.proofs.rows.rows.Given as goal

-- the trees so far, and those that are still to come
abbrev pub invariant-edges : goal.invariant-edges
invariant-edges l =
    (map view l.trees.items ++ map (λ e. link_value (link_of e.now)) (drop l.edge-index l.first) ≡ map (λ e. link_value (link_of e.now)) l.first)
    × (length l.trees.items ≤ 100)
