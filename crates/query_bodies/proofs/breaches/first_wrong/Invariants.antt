use Rattle.std.proofs.Common.{◌≡◌, drop}
use Rattle.json_tree.specs.View.{members_view}
use Rattle.query_bodies.specs.Machinery.Firsts.{first_wrong}
use Rattle.query_bodies.proofs.breaches.first_wrong.Given as goal

-- no member so far is of another kind than its key asks for
abbrev pub invariant-members : goal.invariant-members
invariant-members l = first_wrong (members_view (drop l.member-index l.members)) ≡ first_wrong (members_view l.members)
