use Rattle.std.proofs.Common.{◌≡◌, ◌++◌, ◌≤◌, map, length}
use Rattle.std.specs.Option.{option_copied}
use Rattle.std.specs.List.{filter}
use Rattle.graph_steps.specs.paging.Rows.{is_edge_called}
use Rattle.graph_steps.proofs.paging.first.first_called.Given as goal

abbrev pub invariant-edges : goal.invariant-edges
invariant-edges g l =
    (map (λ e. e.now) l.first.items ++ filter (is_edge_called (option_copied l.name)) l.edge-iterator ≡ filter (is_edge_called (option_copied l.name)) l.fn.listing)
    × (length l.first.items ≤ 101)
