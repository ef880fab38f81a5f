use Rattle.std.proofs.Common.{◌≡◌, drop}
use Rattle.json_tree.specs.View.{members_view}
use Rattle.graph_routes.specs.Identifiers.{first_difference}
use Rattle.graph_routes.specs.Machinery.Found.{path_ids}
use Rattle.graph_routes.proofs.differences.first_difference.Given as goal

-- no member so far differs
abbrev pub invariant-members : goal.invariant-members
invariant-members l = first_difference (path_ids l.ids) (members_view (drop l.member-index l.members)) ≡ first_difference (path_ids l.ids) (members_view l.members)
