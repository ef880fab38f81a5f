use Rattle.std.proofs.Common.{◌≡◌, [], length}
use Rattle.std.specs.List.{AllByRecursion}
use Rattle.extend_resolve.proofs.depths.empty_lists.Given as goal

abbrev pub invariant-lists : goal.invariant-lists
invariant-lists l = record {
  len : length l.lists.items ≡ l._number;
  empty : AllByRecursion (λ x. x ≡ []) l.lists.items;
}
