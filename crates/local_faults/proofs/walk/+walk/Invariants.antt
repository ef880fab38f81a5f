use Rattle.json_tree.specs.Values.{array, object}
use Rattle.json_tree.specs.View.{elements_view, members_view}
use Rattle.local_faults.specs.Machinery.Walks.{IsWalkedTo}
use Rattle.local_faults.proofs.walk.+walk.Given as goal

abbrev pub invariant-first_in_members-loop-at : goal.invariant-first_in_members-loop-at
invariant-first_in_members-loop-at l = IsWalkedTo (members_view l.schemas) l.fn.ids l.ids l.marked (object (members_view l.members)) l.at

abbrev pub invariant-first_in_entries-loop-at : goal.invariant-first_in_entries-loop-at
invariant-first_in_entries-loop-at l = IsWalkedTo (members_view l.schemas) l.fn.ids l.ids l.fn.marked (array (elements_view l.entries)) l.at
