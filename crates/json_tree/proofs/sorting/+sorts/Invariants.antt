use Rattle.std.proofs.Common.{take}
use Rattle.json_tree.specs.View.{elements_view, members_view}
use Rattle.json_tree.specs.Sorting.{ElementsAreSortedOf, MembersAreSortedOf}
use Rattle.json_tree.proofs.sorting.+sorts.Given as goal

abbrev pub invariant-sorted_items-loop-item : goal.invariant-sorted_items-loop-item
invariant-sorted_items-loop-item l = ElementsAreSortedOf (elements_view (take l.item-index l.items)) (elements_view l.copies.items)

abbrev pub invariant-sorted_values-loop-member : goal.invariant-sorted_values-loop-member
invariant-sorted_values-loop-member l = MembersAreSortedOf (members_view (take l.member-index l.members)) (members_view l.copies.items)
