-- Operations that a value holds, where a tree can hold the value, are those of a patch.
use Rattle.std.proofs.Common.{◌≡◌, List, [], ◌∷◌, codes, refl, sym, ap, ap₂, subst, ◌∙◌}
use Rattle.json_decimal.specs.Number.{Number}
use Rattle.json_tree.specs.Values.{Json, Elements, no_elements, element}
use Rattle.json_tree.specs.Machinery.Pieces.{IsOfTree, AreOfTrees}
use Rattle.twin_patch.specs.Operations.{Change, add, replace, remove, Operation, change_of, operation_of, operations_of}
use Rattle.twin_patch.specs.Reading.{HasValue, IsOperation, AreOperations, IsPatch}
use Rattle.twin_patch.specs.declared.entry.PatchOf.{PatchOf}
use Rattle.twin_patch.specs.declared.patch.Op.{Op}
use Rattle.twin_patch.specs.declared.patch.OpKind.{OpKind}
use Rattle.twin_patch.specs.declared.patch.OpKind.TheVariants as kind
use Rattle.twin_patch.specs.declared.patch.Patch.{Patch}
use Rattle.graph_routes.proofs.SomeTrees.{tree_there, under_tree}

kind_there : (entry : Json) (change : Change) → IsOfTree entry → HasValue entry change → (k : OpKind) × (change_of k ≡ change)
kind_there entry (add v) is value = let t = tree_there v (under_tree entry (codes "value") v is value) in (kind.Add t.0, ap (λ (w : Json). add w) t.1)
kind_there entry (replace v) is value = let t = tree_there v (under_tree entry (codes "value") v is value) in (kind.Replace t.0, ap (λ (w : Json). replace w) t.1)
kind_there entry remove is value = (kind.Remove, refl)

op_there : (of : PatchOf) (entry : Json) (o : Operation) → IsOfTree entry → IsOperation of entry o → (op : Op) × (operation_of op ≡ o)
op_there of entry o is h =
    let k = kind_there entry o.change is h.2 in
    (record { kind = k.0; path = o.path }, ap (λ (c : Change). record { change = c; path = o.path }) k.1)

ops_there : (of : PatchOf) (entries : Elements Number) (os : List Operation) → AreOfTrees entries → AreOperations of entries os
    → (ops : List Op) × (operations_of ops ≡ os)
ops_there of no_elements os are h = ([], sym h)
ops_there of (element entry entries) os are (o, rest, is, one, more) =
    let op = op_there of entry o are.0 one in
    let ops = ops_there of entries rest are.1 more in
    (op.0 ∷ ops.0, ap₂ (λ (x : Operation) (xs : List Operation). x ∷ xs) op.1 ops.1 ∙ sym is)

pub patch_there : (of : PatchOf) (v : Json) (os : List Operation) → IsOfTree v → IsPatch of v os → (patch : Patch) × IsPatch of v (operations_of patch.ops)
patch_there of v os is (entries, same, are, fit) =
    let all : AreOfTrees entries = subst IsOfTree same is in
    let ops = ops_there of entries os all are in
    (record { ops = ops.0 }, subst (λ (xs : List Operation). IsPatch of v xs) (sym ops.1) (entries, same, are, fit))
