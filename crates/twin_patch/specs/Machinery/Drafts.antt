-- A value under changes as the value that it stands for: of each object, what was changed beside what it had.
use Rattle.std.specs.Prelude.{◌≡◌, ℕ, List, [], ◌∷◌, map, Option, Some, None}
use Rattle.std.specs.List.{AllByRecursion}
use Rattle.std.specs.Map.{keys_of}
use Rattle.std.specs.BTreeMap.{BTreeMap}
use Rattle.std.specs.declared.cmp.Ordering.TheVariants.{Less}
use Rattle.json_decimal.specs.Number.{Number}
use Rattle.json_tree.specs.Values.{Json, object, Members, no_members, member}
use Rattle.json_tree.specs.View.{view, members_view}
use Rattle.json_tree.specs.declared.tree.Member.{Member}
use Rattle.twin_patch.specs.Objects.{with_member, without_member}
use Rattle.twin_patch.specs.Machinery.Orders.{compared_keys, IsBeforeAll}
use Rattle.twin_patch.specs.declared.base.Base.{Base}
use Rattle.twin_patch.specs.declared.draft.Draft.{Draft, fold-Draft}
use Rattle.twin_patch.specs.declared.draft.Draft.TheOpen.{Draft-F}

-- Members with this value under the key, or with none.
abbrev pub put_entry : List ℕ → Option Json → Members Number → Members Number
put_entry key (Some v) ms = with_member key v ms
put_entry key None ms = without_member key ms

-- Members after changes, each of one key.
abbrev pub overlaid : {X : Type 0} → (X → Option Json) → List (List ℕ × X) → Members Number → Members Number
overlaid f [] ms = ms
overlaid f (e ∷ es) ms = put_entry e.0 (f e.1) (overlaid f es ms)

abbrev pub itself : Option Json → Option Json
itself x = x

-- None where there is no value.
abbrev pub draft_step : Draft-F (Option Json) → Option Json
draft_step Draft-F.Absent = None
draft_step (Draft-F.Whole tree) = Some (view tree)
draft_step (Draft-F.Edited base edits) = Some (object (overlaid itself edits.entries (members_view base.members.items)))

abbrev pub draft_view : Draft → Option Json
draft_view = fold-Draft (Option Json) draft_step

-- The members of an object under changes.
abbrev pub both : Base → BTreeMap (List ℕ) Draft → Members Number
both base edits = overlaid draft_view edits.entries (members_view base.members.items)

-- Members behind those of a list.
abbrev pub members_behind : List Member → Members Number → Members Number
members_behind [] ms = ms
members_behind (m ∷ out) ms = member m.key (view m.value) (members_behind out ms)

-- Members behind the one of a key, where it has a value.
abbrev pub front : List ℕ → Option Json → Members Number → Members Number
front key (Some v) ms = member key v ms
front key None ms = ms

abbrev pub IsFrontBefore : List ℕ → Members Number → Type 0
IsFrontBefore key no_members = ⊥
IsFrontBefore key (member k v ms) = compared_keys k key ≡ Less

abbrev pub IsFrontAt : List ℕ → Members Number → Type 0
IsFrontAt key no_members = ⊥
IsFrontAt key (member k v ms) = k ≡ key

abbrev pub IsPast : List ℕ → Members Number → Type 0
IsPast key ms = IsFrontBefore key ms → ⊥

-- The keys of entries come after a key.
abbrev pub AreAfter : {X : Type 0} → List ℕ → List (List ℕ × X) → Type 0
AreAfter key es = AllByRecursion (λ k. compared_keys key k ≡ Less) (keys_of es)
