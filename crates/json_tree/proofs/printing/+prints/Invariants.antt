use Rattle.std.proofs.Common.{◌≡◌, ◌++◌, drop, take, string_bytes}
use Rattle.json_tree.specs.Printing.{printed_elements, printed_members}
use Rattle.json_tree.specs.Machinery.Pieces.{AreOfTrees, MembersAreOfTrees}
use Rattle.json_tree.specs.View.{elements_view, members_view}
use Rattle.json_tree.proofs.Printed.{elements_left, members_left}
use Rattle.json_tree.proofs.printing.+prints.Given as goal

-- the text so far and that of the items that are left are the whole
abbrev pub invariant-push_elements-loop-position : goal.invariant-push_elements-loop-position
invariant-push_elements-loop-position l = record {
  printed : string_bytes l.out ++ elements_left l.position (elements_view (drop l.position l.items))
      ≡ string_bytes l.fn.out ++ printed_elements (elements_view l.items);
  of_tree : AreOfTrees (elements_view (take l.position l.items));
}

abbrev pub invariant-push_members-loop-position : goal.invariant-push_members-loop-position
invariant-push_members-loop-position l = record {
  printed : string_bytes l.out ++ members_left l.position (members_view (drop l.position l.members))
      ≡ string_bytes l.fn.out ++ printed_members (members_view l.members);
  of_tree : MembersAreOfTrees (members_view (take l.position l.members));
}
