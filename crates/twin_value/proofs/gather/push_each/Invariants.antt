use Rattle.std.proofs.Common.{take}
use Rattle.json_tree.specs.View.{members_view}
use Rattle.twin_value.specs.Twins.{picked, same_value, without_metadata, is_value_role, is_part_role}
use Rattle.twin_value.specs.Machinery.Gathering.{PutsBehind}
use Rattle.twin_value.specs.Machinery.Views.{keys_role}
use Rattle.twin_value.proofs.gather.push_each.Given as goal

-- each of the members so far stands with those of its kind
abbrev pub invariant-loop-member : goal.invariant-loop-member
invariant-loop-member l =
    PutsBehind l.fn.values.items l.values.items (picked (λ key. is_value_role (keys_role l.keys key)) same_value (members_view (take l.member-index l.from)))
    × PutsBehind l.fn.parts.items l.parts.items (picked (λ key. is_part_role (keys_role l.keys key)) without_metadata (members_view (take l.member-index l.from)))
