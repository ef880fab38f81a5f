use Rattle.std.proofs.Common.{◌≡◌, take}
use Rattle.json_tree.proofs.+copies.Given as goal

abbrev pub invariant-copies::copy_items-loop-item : goal.invariant-copies::copy_items-loop-item
invariant-copies::copy_items-loop-item l = l.copies.items ≡ take l.item-index l.items

abbrev pub invariant-copies::copy_members-loop-member : goal.invariant-copies::copy_members-loop-member
invariant-copies::copy_members-loop-member l = l.copies.items ≡ take l.member-index l.members
