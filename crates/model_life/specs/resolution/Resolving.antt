-- What an interface has with all that it inherits (DTDL v2, "Interface", the property `extends`) and with what its
-- components consist of.
use Rattle.std.specs.Prelude.{◌≡◌, ◌↔◌, ◌+◌, ◌≤◌, ◌⊎◌, ℕ, List, length, map, Option, Some, None, Contains}
use Rattle.std.specs.List.{sum_by}
use Rattle.std.specs.Map.{lookup, values_of}
use Rattle.std.specs.BTreeMap.{is_at}
use Rattle.std.specs.Ordering.{nat_cmp}
use Rattle.std.specs.Cmp.Lexicographic.{slice_cmp}
use Rattle.std.specs.List.Sorted.{IsStrictlySortedBy}
use Rattle.dt_base.specs.names.Grammar.{Identifier, dtmi_text, id_cmp}
use Rattle.dtdl_terms.specs.declared.interface.Interface.{Interface}
use Rattle.dtdl_terms.specs.declared.resolved.NamedIn.{NamedIn}
use Rattle.dtdl_terms.specs.declared.resolved.PartOf.{PartOf}
use Rattle.dtdl_terms.specs.declared.resolved.Resolved.{Resolved}
use Rattle.dtdl_terms.specs.declared.resolved.ResolvedContent.{ResolvedContent}
use Rattle.dtdl_terms.specs.Sets.{interface_at}
use Rattle.extend_resolve.specs.Chains.{IsAncestor}
use Rattle.extend_resolve.specs.SetRules.{IsComponentOf, NamesParent, NamesComponent, LacksParent, LacksComponent}

-- an ancestor of the interface declares the content
abbrev pub Has : List Interface → Interface → ResolvedContent → Type 0
Has set i r = (a : Interface) × IsAncestor set i a × (r.from ≡ a.id) × Contains a.contents r.content

-- exactly these contents, in the order of their names
pub record ListsContents (set : List Interface) (i : Interface) (rs : List ResolvedContent) : Type 0 where
  pub each : (r : ResolvedContent) → Contains rs r ↔ Has set i r
  pub sorted : IsStrictlySortedBy (slice_cmp nat_cmp) (map (λ r. r.content.name) rs)

-- exactly the identifiers of the ancestors, in their order
pub record ListsAncestors (set : List Interface) (i : Interface) (ids : List Identifier) : Type 0 where
  pub each : (id : Identifier) → Contains ids id ↔ ((a : Interface) × IsAncestor set i a × (id ≡ a.id))
  pub sorted : IsStrictlySortedBy id_cmp ids

-- a component that the interface has is of `q`
abbrev pub HasPart : List Interface → Interface → Interface → Type 0
HasPart set i q = (r : ResolvedContent) × (p : Identifier) × Has set i r × IsComponentOf r.content p × (interface_at p set ≡ Some q)

-- each interface of which it has a component, in the order of their identifiers, with exactly the contents that it has
pub record ListsParts (set : List Interface) (i : Interface) (parts : List PartOf) : Type 0 where
  pub each : (part : PartOf) → Contains parts part → (q : Interface) × HasPart set i q × (part.of ≡ q.id) × ListsContents set q part.contents
  pub every : (q : Interface) → HasPart set i q → Contains (map (λ part. part.of) parts) q.id
  pub sorted : IsStrictlySortedBy id_cmp (map (λ part. part.of) parts)

-- an interface from which its contents, or those of its parts, may come
abbrev pub IsSource : List Interface → Interface → Interface → Type 0
IsSource set i a = IsAncestor set i a ⊎ ((q : Interface) × HasPart set i q × IsAncestor set q a)

-- exactly the schemas that each of these declares, in the order of their identifiers
pub record ListsNamed (set : List Interface) (i : Interface) (named : List NamedIn) : Type 0 where
  pub each : (n : NamedIn) → Contains named n ↔ ((a : Interface) × IsSource set i a × (n.of ≡ a.id) × (n.schemas ≡ a.schemas))
  pub sorted : IsStrictlySortedBy id_cmp (map (λ n. n.of) named)

pub record IsResolved (set : List Interface) (i : Interface) (r : Resolved) : Type 0 where
  pub contents : ListsContents set i r.contents
  pub ancestors : ListsAncestors set i r.ancestors
  pub named : ListsNamed set i r.named
  pub parts : ListsParts set i r.parts

-- ---- what is held of what interfaces have
abbrev pub entry_at : Identifier → List (Identifier × Resolved) → Option Resolved
entry_at id table = lookup (is_at (id_cmp id)) table

-- what the interface has, exactly where there is one
abbrev pub EntryOf : List Interface → Option Interface → Option Resolved → Type 0
EntryOf set None None = Unit {0}
EntryOf set None (Some r) = ⊥
EntryOf set (Some i) None = ⊥
EntryOf set (Some i) (Some r) = IsResolved set i r

-- Each entry that is held is what the interface of its identifier has in the set.
abbrev pub HoldsRight : List Interface → List (Identifier × Resolved) → Type 0
HoldsRight set table = (id : Identifier) (r : Resolved) → entry_at id table ≡ Some r → (i : Interface) × (interface_at id set ≡ Some i) × IsResolved set i r

-- It holds at most 100,000 contents, or else what one interface has.
abbrev pub held_contents : Resolved → ℕ
held_contents r = length r.contents + sum_by (λ part. length part.contents) r.parts

abbrev pub contents_held : List (Identifier × Resolved) → ℕ
contents_held table = sum_by held_contents (values_of table)

abbrev pub HoldsLittle : List (Identifier × Resolved) → Type 0
HoldsLittle table = (contents_held table ≤ 100000) ⊎ (length table ≤ 1)

-- ---- sets that change
-- each interface of the smaller set stands in the larger
abbrev pub IsWithin : List Interface → List Interface → Type 0
IsWithin small large = (p : Identifier) (i : Interface) → interface_at p small ≡ Some i → interface_at p large ≡ Some i

-- no interface of the set names a parent, or the interface of a component, that is absent
abbrev pub LacksNone : List Interface → Type 0
LacksNone set = (i : Interface) (k : ℕ) → interface_at i.id set ≡ Some i → (LacksParent set i k → ⊥) × (LacksComponent set i k → ⊥)

-- Only the interface with this identifier itself names it as a parent, or as the interface of a component.
abbrev pub IsFree : List Interface → Identifier → Type 0
IsFree set id = (i : Interface) (k : ℕ) (p : Identifier) → interface_at i.id set ≡ Some i → NamesParent i k p ⊎ NamesComponent i k p → dtmi_text p ≡ dtmi_text id → dtmi_text i.id ≡ dtmi_text id
