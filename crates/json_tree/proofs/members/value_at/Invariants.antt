use Rattle.std.proofs.Common.{◌≡◌, drop}
use Rattle.json_tree.specs.View.{members_view}
use Rattle.json_tree.specs.Members.{value_at}
use Rattle.json_tree.proofs.members.value_at.Given as goal

-- no member so far has the key
abbrev pub invariant-loop-member : goal.invariant-loop-member
invariant-loop-member l = value_at l.key (members_view (drop l.member-index l.members)) ≡ value_at l.key (members_view l.members)
