use Rattle.std.proofs.Common.{arith}
use Rattle.json_tree.proofs.Printed.{element_printed, member_printed, item_of_tree, member_of_tree}
use Rattle.json_tree.proofs.printing.+prints.Goals as goal

pub push_elements-loop-position-preserved : goal.push_elements-loop-position-preserved
push_elements-loop-position-preserved t c =
    let items = c.args.items.now in let i = c.loop-position.position in let item = c.index-items-position.result in let lt = c.loop-position-test.true in
    record {
      printed = rw (c.in_ok-push_value.ensures.printed, c.in_ok-push_comma.ensures)
          (element_printed _ _ items i item lt c.index-items-position.is c.loop-position.invariant.printed);
      of_tree = item_of_tree items i item lt c.index-items-position.is c.loop-position.invariant.of_tree c.in_ok-push_value.ensures.of_tree;
    }

pub push_members-loop-position-preserved : goal.push_members-loop-position-preserved
push_members-loop-position-preserved t c =
    let members = c.args.members.now in let i = c.loop-position.position in let colon = c.push.ensures.ascii (omega arith) in let m = c.index-members-position.result in let lt = c.loop-position-test.true in
    record {
      printed = rw (c.in_ok-push_value.ensures.printed, c.in_ok-push.ensures.bytes, colon, c.in_ok-push_quoted.ensures.printed, c.as_str.ensures, c.in_ok-push_comma.ensures)
          (member_printed _ _ members i m lt c.index-members-position.is c.loop-position.invariant.printed);
      of_tree = member_of_tree members i m lt c.index-members-position.is c.loop-position.invariant.of_tree (rw c.as_str.ensures at c.push_quoted.ensures.utf8) c.in_ok-push_value.ensures.of_tree;
    }
