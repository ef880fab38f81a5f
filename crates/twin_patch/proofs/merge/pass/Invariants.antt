use Rattle.std.proofs.Common.{◌≡◌, ◌∷◌, List, ℕ, length}
use Rattle.json_tree.specs.View.{members_view}
use Rattle.twin_patch.specs.declared.draft.Draft.{Draft}
use Rattle.twin_patch.specs.Machinery.Orders.{KeysRise}
use Rattle.twin_patch.specs.Machinery.Drafts.{overlaid, draft_view, members_behind, AreAfter}
use Rattle.twin_patch.proofs.merge.pass.Given as goal

abbrev pub invariant-moves : goal.invariant-moves
invariant-moves l = record {
  rise : KeysRise (members_view l.members.items);
  same : (x : Draft) (more : List (List ℕ × Draft)) → AreAfter l.key more
      → members_behind l.out.items (overlaid draft_view ((l.key, x) ∷ more) (members_view l.members.items)) ≡ members_behind l.initial.out.items (overlaid draft_view ((l.key, x) ∷ more) (members_view l.initial.members.items));
}

abbrev pub decreases-moves : goal.decreases-moves
decreases-moves l = length l.members.items
