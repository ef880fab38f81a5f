use Rattle.std.proofs.Common.{◌≡◌, ◌+◌, ◌-◌, ◌≤◌, length, drop}
use Rattle.json_tree.specs.View.{members_view}
use Rattle.twin_value.specs.Breaches.{key_position}
use Rattle.twin_value.proofs.link.position_of.Given as goal

-- no member so far has the key
abbrev pub invariant-members : goal.invariant-members
invariant-members l = (l.at ≤ length l.members) × (l.at + key_position l.key (members_view (drop l.at l.members)) ≡ key_position l.key (members_view l.members))

abbrev pub decreases-members : goal.decreases-members
decreases-members l = length l.members - l.at
