-- One step of a change down a path, and one operation of a patch.
use Rattle.std.proofs.Common.{◌≡◌, ℕ, zero, suc, ◌+◌, ◌<◌, ◌≤◌, List, [], ◌∷◌, length, map, drop, get_or, Option, Some, None, Result, Ok, add-one, refl, sym, ap, ap₂, ◌∙◌, subst, arith, drop-cons}
use Rattle.std.specs.Prelude.{option_and_then, All}
use Rattle.std.specs.Option.{option_map}
use Rattle.json_decimal.specs.Number.{Number}
use Rattle.json_tree.specs.Values.{Json, null, object, Members}
use Rattle.json_tree.specs.View.{view, members_view}
use Rattle.json_tree.specs.Places.{member_at}
use Rattle.json_tree.specs.declared.tree.Tree.{Tree}
use Rattle.json_tree.specs.declared.tree.Tree as variants
use Rattle.json_tree.specs.declared.tree.Member.{Member}
use Rattle.json_tree.proofs.Views.{view-Members}
use Rattle.twin_patch.specs.Objects.{value_under, with_member}
use Rattle.twin_patch.specs.Operations.{Change, Operation, change_of, operation_of, operations_of, BringsDistinctKeys}
use Rattle.twin_patch.specs.Patched.{edited, changed_value, applied, applied_at, go_on, patched_from}
use Rattle.twin_patch.specs.declared.patch.Op.{Op}
use Rattle.twin_patch.specs.Machinery.Orders.{IsInOrder, AreInOrder, IsFoundAt, IsMissingAt, put_at}
use Rattle.twin_patch.proofs.Edits.{value_found}
use Rattle.twin_patch.proofs.Ordered.{value_order, applied_order}

pub view_object : (members : List Member) → view (variants.Members members) ≡ object (members_view members)
view_object members = view-Members members

some_same : (x y : List ℕ × Json) → Some x ≡ Some y → x ≡ y
some_same x y e = cc

-- the value that was taken out of a position is that of the key
pub part_is : (key : List ℕ) (ms : Members Number) (at : ℕ) (part : Json) → IsFoundAt key ms at → ((k : List ℕ) × (member_at ms at ≡ Some (k, part))) → value_under key ms ≡ Some part
part_is key ms at part found h =
    let v = value_found ms key at found in
    let same = some_same (key, v.0) (h.0, part) (sym v.2 ∙ h.1) in
    v.1 ∙ ap (λ (m : List ℕ × Json). Some m.1) same

-- one operation more
pub one_more : (ops : List Op) (i : ℕ) (op : Op) (v : Json) → i < length ops → op ≡ get_or ops i op
    → patched_from i (operations_of (drop i ops)) v ≡ go_on i (applied (operation_of op) v) (patched_from (i + 1) (operations_of (drop (i + 1) ops)))
one_more ops i op v lt is =
    let split : drop i ops ≡ op ∷ drop (i + 1) ops = rw add-one (drop-cons ops i op lt ∙ ap (λ (o : Op). o ∷ drop (suc i) ops) (sym is)) in
    rw split refl
