use Rattle.std.proofs.Common.{◌≡◌, ◌+◌, drop}
use Rattle.json_tree.specs.View.{elements_view, members_view}
use Rattle.json_length.specs.Lengths.{elements_length, members_length}
use Rattle.json_length.proofs.values.+counts.Given as goal

-- what is spent so far and the length of the items that are left are that of all
abbrev pub invariant-left_after_elements-loop-item : goal.invariant-left_after_elements-loop-item
invariant-left_after_elements-loop-item l =
    l.fn.left + elements_length (elements_view (drop l.item-index l.items)) ≡ l.rest + elements_length (elements_view l.items)

abbrev pub invariant-left_after_members-loop-member : goal.invariant-left_after_members-loop-member
invariant-left_after_members-loop-member l =
    l.fn.left + members_length (members_view (drop l.member-index l.members)) ≡ l.rest + members_length (members_view l.members)
