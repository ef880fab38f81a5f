use Rattle.std.proofs.Common.{◌≡◌, drop}
use Rattle.graph_steps.specs.QueryAsks.{item_members}
use Rattle.query_eval.specs.values.Rows.{row_view}
use Rattle.query_eval.specs.Machinery.Seen.{values_view}
use Rattle.query_eval.proofs.projection.item_values.Given as goal

-- the last of the items so far
abbrev pub invariant-items : goal.invariant-items
invariant-items l = values_view l.values.entries ≡ item_members (row_view l.row) (drop l.at l.items)
