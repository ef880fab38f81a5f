use Rattle.std.proofs.Common.{take, sym}
use Rattle.json_tree.proofs.SortedParts.{items_more, members_more, next_item, members_sorted}
use Rattle.json_tree.proofs.sorting.+sorts.Goals as goal

pub sorted-returns-in_ok-members-in-Members : goal.sorted-returns-in_ok-members-in-Members
sorted-returns-in_ok-members-in-Members t c =
    rw c.from_vec-in-Members.ensures (members_sorted c.args.tree.now c.in-Members.members c.in_ok-members-in-Members.members.items c.sort_by_key.new.members.items
    c.in-Members.is (rw c.as_slice-in-Members.ensures at c.in_ok-members-in-Members.ensures) c.sort_by_key.ensures.same c.sort_by_key.ensures.sorted)

pub sorted_items-loop-item-preserved : goal.sorted_items-loop-item-preserved
sorted_items-loop-item-preserved t c =
    rw (next_item c.args.items.now c.loop-item.item-index c.item-item.result c.loop-item-test.true c.item-item.is, c.in_ok-push.ensures.items)
    (items_more (take c.loop-item.item-index c.args.items.now) c.loop-item.copies.items c.item-item.result c.in_ok-sorted.field-0 c.loop-item.invariant c.in_ok-sorted.ensures)

pub sorted_values-loop-member-preserved : goal.sorted_values-loop-member-preserved
sorted_values-loop-member-preserved t c =
    rw (next_item c.args.members.now c.loop-member.member-index c.member-item.result c.loop-member-test.true c.member-item.is, c.in_ok-push.ensures.items)
    (members_more (take c.loop-member.member-index c.args.members.now) c.loop-member.copies.items c.member-item.result _ c.loop-member.invariant (sym c.in_ok-key.ensures) c.in_ok-value.ensures)
