use Rattle.std.proofs.Common.{take}
use Rattle.json_tree.specs.Machinery.Pieces.{AreOfTrees, MembersAreOfTrees}
use Rattle.json_tree.specs.View.{elements_view, members_view}
use Rattle.json_tree.proofs.laws.+of_tree.Given as goal

-- what was walked over
abbrev pub invariant-of_items-loop-item : goal.invariant-of_items-loop-item
invariant-of_items-loop-item l = AreOfTrees (elements_view (take l.item-index l.items))

abbrev pub invariant-of_members-loop-member : goal.invariant-of_members-loop-member
invariant-of_members-loop-member l = MembersAreOfTrees (members_view (take l.member-index l.members))
