-- What is printed, as a value.
use Rattle.std.proofs.Common.{◌≡◌, Result, Ok, Err}
use Rattle.std.specs.Result.{IfOk}
use Rattle.json_tree.specs.Sorting.{IsSortedOf}
use Rattle.json_tree.specs.Values.{Json, HasDistinctKeys}
use Rattle.json_tree.specs.View.{view}
use Rattle.json_tree.specs.declared.tree.Tree.{Tree}
use Rattle.twin_patch.specs.Objects.{sorted_value}
use Rattle.twin_patch.proofs.Sorted.{sorted_is}

pub printed_so : {E : Type 0} (res : Result Tree E) (v : Json) → HasDistinctKeys v → IfOk res (λ t. IsSortedOf v (view t)) → IfOk res (λ t. view t ≡ sorted_value v)
printed_so (Ok t) v d h = sorted_is v (view t) d h
printed_so (Err e) v d h = tt
