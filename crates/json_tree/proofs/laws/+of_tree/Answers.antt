use Rattle.json_tree.proofs.Printed.{item_of_tree, member_of_tree}
use Rattle.json_tree.proofs.laws.+of_tree.Goals as goal

pub of_items-loop-item-preserved : goal.of_items-loop-item-preserved
of_items-loop-item-preserved t c =
    item_of_tree c.args.items.now c.loop-item.item-index c.item-item.result c.loop-item-test.true c.item-item.is c.loop-item.invariant c.of_tree.ensures

pub of_members-loop-member-preserved : goal.of_members-loop-member-preserved
of_members-loop-member-preserved t c =
    member_of_tree c.args.members.now c.loop-member.member-index c.member-item.result c.loop-member-test.true c.member-item.is c.loop-member.invariant
    (rw c.as_str.ensures at c.of_text.ensures) c.of_tree.ensures
