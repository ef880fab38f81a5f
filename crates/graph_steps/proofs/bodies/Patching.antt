-- Patches of sorted values.
use Rattle.std.proofs.Common.{◌≡◌, ℕ, ◌+◌, List, [], ◌∷◌, Option, Some, None, Ok, refl, subst}
use Rattle.std.specs.Prelude.{All}
use Rattle.json_tree.specs.Values.{Json, HasDistinctKeys}
use Rattle.twin_patch.specs.Objects.{sorted_value}
use Rattle.twin_patch.specs.Operations.{Operation, change_of, BringsDistinctKeys}
use Rattle.twin_patch.specs.Patched.{applied, go_on, patched_from}
use Rattle.twin_patch.specs.Machinery.Orders.{IsInOrder}
use Rattle.twin_patch.specs.declared.entry.PatchOf.{PatchOf}
use Rattle.twin_patch.specs.declared.patch.Op.{Op}
use Rattle.twin_patch.specs.declared.patch.Patch.{Patch}
use Rattle.twin_patch.proofs.Distinct.{patch_distinct}
use Rattle.twin_patch.proofs.Ordered.{applied_order}
use Rattle.graph_steps.specs.Soundness.{IsReadPatch}
use Rattle.graph_steps.proofs.bodies.Keys.{order_distinct, order_sorted, sorted_in_order}

-- what is made of a sorted value is sorted
patched_order : (at : ℕ) (os : List Operation) (v w : Json) → IsInOrder v → patched_from at os v ≡ Ok w → IsInOrder w
patched_order at [] v w o h = let same : v ≡ w = cc in subst IsInOrder same o
patched_order at (op ∷ os) v w o h = step (applied op v) refl h (λ x p e. patched_order (at + 1) os x w p e) where
  step : (found : Option Json) → applied op v ≡ found → go_on at found (patched_from (at + 1) os) ≡ Ok w → ((x : Json) → IsInOrder x → patched_from (at + 1) os x ≡ Ok w → IsInOrder w) → IsInOrder w
  step None e f later = absurd cc
  step (Some x) e f later = later x (applied_order op.change op.path v x o e) f

module _ (os : List Operation) (v : Json) (sorted : sorted_value v ≡ v) where
  pub new_sorted : (w : Json) → patched_from 0 os v ≡ Ok w → sorted_value w ≡ w
  new_sorted w h = order_sorted w (patched_order 0 os v w (sorted_in_order v sorted) h)

  pub new_distinct : (w : Json) → patched_from 0 os v ≡ Ok w → HasDistinctKeys w
  new_distinct w h = order_distinct w (patched_order 0 os v w (sorted_in_order v sorted) h)

pub sorted_distinct : (v : Json) → sorted_value v ≡ v → HasDistinctKeys v
sorted_distinct v sorted = order_distinct v (sorted_in_order v sorted)

pub brings_distinct : (of : PatchOf) (patch : Patch) → IsReadPatch of patch → All (λ (op : Op). BringsDistinctKeys (change_of op.kind)) patch.ops
brings_distinct of patch (v, read, is) = patch_distinct of v (Ok patch) read.distinct is
