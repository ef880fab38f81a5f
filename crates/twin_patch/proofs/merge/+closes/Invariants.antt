use Rattle.std.proofs.Common.{◌≡◌}
use Rattle.std.specs.List.Sorted.{IsStrictlySortedBy}
use Rattle.std.specs.Map.{keys_of}
use Rattle.json_tree.specs.View.{members_view}
use Rattle.twin_patch.specs.Machinery.Orders.{compared_keys, KeysRise}
use Rattle.twin_patch.specs.Machinery.Drafts.{overlaid, draft_view, both, members_behind}
use Rattle.twin_patch.proofs.merge.+closes.Given as goal

abbrev pub invariant-merged-edits : goal.invariant-merged-edits
invariant-merged-edits l = record {
  next : (goal.iterator-merged-edits).can_next l.key-iterator;
  finite : (goal.iterator-merged-edits).is_finite l.key-iterator;
  rise : KeysRise (members_view l.members.items);
  ordered : IsStrictlySortedBy compared_keys (keys_of l.key-iterator);
  total : members_behind l.out.items (overlaid draft_view l.key-iterator (members_view l.members.items)) ≡ both l.fn.base l.fn.edits;
}
