use Rattle.std.proofs.Common.{◌≤◌}
use Rattle.json_tree.specs.Values.{array, object}
use Rattle.json_tree.specs.View.{elements_view, members_view}
use Rattle.json_read.proofs.Duplicates.{IsClear}
use Rattle.json_read.proofs.keys.+keys.Given as goal

abbrev pub invariant-first_in_items-loop-at : goal.invariant-first_in_items-loop-at
invariant-first_in_items-loop-at l = IsClear (array (elements_view l.items)) l.at

abbrev pub invariant-first_in_members-loop-at : goal.invariant-first_in_members-loop-at
invariant-first_in_members-loop-at l = record {
  before : l.at ≤ l.repeat;
  clear : IsClear (object (members_view l.members)) l.at;
}
