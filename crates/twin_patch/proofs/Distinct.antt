-- Values that were read, and those that operations bring, have distinct keys.
use Rattle.std.proofs.Common.{◌≡◌, ℕ, List, [], ◌∷◌, Bool, true, false, cond, Option, Some, None, Result, Ok, Err, refl, sym, ap, ◌∙◌, subst}
use Rattle.std.specs.Prelude.{bytes_eq, All, IfOk, ◌↔◌}
use Rattle.json_tree.specs.declared.tree.Tree.{Tree}
use Rattle.std.specs.List.{AllByRecursion}
use Rattle.std.proofs.lemmas.List.Elements.{All-from_recursion}
use Rattle.json_decimal.specs.Number.{Number}
use Rattle.json_tree.specs.Values.{Raw, Json, null, truth, number, text, array, object, Elements, no_elements, element, Members, no_members, member, LacksKey, HasDistinctKeys, ElementsHaveDistinctKeys, MembersHaveDistinctKeys, IsReadAs, ElementsAreReadAs, MembersAreReadAs}
use Rattle.json_tree.specs.Grammar.{Spells}
use Rattle.json_tree.specs.View.{view}
use Rattle.json_tree.proofs.DistinctKeys.{spelled_distinct}
use Rattle.twin_patch.specs.Objects.{value_under}
use Rattle.twin_patch.specs.Operations.{Change, add, replace, remove, Operation, change_of, operation_of, operations_of, BringsDistinctKeys}
use Rattle.twin_patch.specs.Reading.{HasUnderKey, HasValue, AreOperations, ReadsPatch}
use Rattle.twin_patch.specs.declared.entry.PatchOf.{PatchOf}
use Rattle.twin_patch.specs.declared.patch.Op.{Op}
use Rattle.twin_patch.specs.declared.patch.Patch.{Patch}
use Rattle.twin_patch.specs.declared.reading.PatchEnd.{PatchEnd}

value_distinct : (key : List ℕ) (ms : Members Number) (v : Json) → MembersHaveDistinctKeys ms → value_under key ms ≡ Some v → HasDistinctKeys v
value_distinct key no_members v d h = absurd cc
value_distinct key (member k w ms) v d h = step (bytes_eq k key) h (value_distinct key ms v d.2) where
  step : (b : Bool) → cond b (Some w) (value_under key ms) ≡ Some v → (value_under key ms ≡ Some v → HasDistinctKeys v) → HasDistinctKeys v
  step true e behind = let same : w ≡ v = cc in subst (λ (u : Json). HasDistinctKeys u) same d.1
  step false e behind = behind e

has_distinct : (entry : Json) (key : List ℕ) (v : Json) → HasDistinctKeys entry → HasUnderKey entry key v → HasDistinctKeys v
has_distinct null key v d h = absurd h
has_distinct (truth b) key v d h = absurd h
has_distinct (number n) key v d h = absurd h
has_distinct (text t) key v d h = absurd h
has_distinct (array vs) key v d h = absurd h
has_distinct (object ms) key v d h = value_distinct key ms v d h

brings : (entry : Json) (change : Change) → HasDistinctKeys entry → HasValue entry change → BringsDistinctKeys change
brings entry (add v) d h = has_distinct entry _ v d h
brings entry (replace v) d h = has_distinct entry _ v d h
brings entry remove d h = tt

all_bring : (of : PatchOf) (es : Elements Number) (ops : List Op) → ElementsHaveDistinctKeys es → AreOperations of es (operations_of ops) → AllByRecursion (λ (op : Op). BringsDistinctKeys (change_of op.kind)) ops
all_bring of no_elements [] d h = tt
all_bring of no_elements (op ∷ ops) d h = absurd (let f : operation_of op ∷ operations_of ops ≡ [] = h in cc)
all_bring of (element e es) [] d (o, rest, is, one, more) = absurd (let f : [] ≡ o ∷ rest = is in cc)
all_bring of (element e es) (op ∷ ops) d (o, rest, is, one, more) =
    let f : operation_of op ∷ operations_of ops ≡ o ∷ rest = is in
    let first : o ≡ operation_of op = cc in
    let others : rest ≡ operations_of ops = cc in
    let value : HasValue e (change_of op.kind) = subst (λ (p : Operation). HasValue e p.change) first one.2 in
    (brings e (change_of op.kind) d.0 value, all_bring of es ops d.1 (subst (λ (l : List Operation). AreOperations of es l) others more))

pub patch_distinct : (of : PatchOf) (v : Json) (r : Result Patch PatchEnd) → HasDistinctKeys v → ReadsPatch of v r → IfOk r (λ (p : Patch). All (λ (op : Op). BringsDistinctKeys (change_of op.kind)) p.ops)
patch_distinct of v (Ok patch) d h =
    let entries : HasDistinctKeys (array h.0) = subst (λ (w : Json). HasDistinctKeys w) h.1 d in
    All-from_recursion (λ (op : Op). BringsDistinctKeys (change_of op.kind)) patch.ops (all_bring of h.0 patch.ops entries h.2)
patch_distinct of v (Err e) d h = tt

pub read_tree : (bytes : List ℕ) (tree : Tree) → ((value : Json) → Spells bytes value ↔ (view tree ≡ value)) → HasDistinctKeys (view tree)
read_tree bytes tree h = spelled_distinct bytes (view tree) ((h (view tree)).1 refl)
