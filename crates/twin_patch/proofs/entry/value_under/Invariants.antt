use Rattle.std.proofs.Common.{◌≡◌, drop}
use Rattle.json_tree.specs.View.{members_view}
use Rattle.twin_patch.specs.Objects.{value_under}
use Rattle.twin_patch.proofs.entry.value_under.Given as goal

-- no member so far has the key
abbrev pub invariant-loop-member : goal.invariant-loop-member
invariant-loop-member l = value_under l.key (members_view (drop l.member-index l.members)) ≡ value_under l.key (members_view l.members)
