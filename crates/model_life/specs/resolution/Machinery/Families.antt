-- Interfaces that are found in a set, and contents that are found in interfaces, each kept under its name.
use Rattle.std.specs.Prelude.{◌≡◌, ◌<◌, ◌≤◌, ◌⊎◌, ℕ, List, map, length, Option, Some, None, Contains, slice_index_or}
use Rattle.std.specs.Ordering.{is_eq, nat_cmp}
use Rattle.std.specs.Cmp.Lexicographic.{slice_cmp}
use Rattle.std.specs.List.{AllByRecursion}
use Rattle.std.specs.Map.{lookup}
use denote.Ref.{Bor}
use Rattle.dt_base.specs.names.Grammar.{Identifier, dtmi_text}
use Rattle.dtdl_terms.specs.Sets.{interface_at}
use Rattle.dtdl_terms.specs.Terms.{KindTerm, telemetry, property, command, relationship, component}
use Rattle.dtdl_terms.specs.TermViews.{kind_term}
use Rattle.dtdl_terms.specs.declared.content.Content.{Content}
use Rattle.dtdl_terms.specs.declared.interface.Interface.{Interface}
use Rattle.dtdl_terms.specs.declared.resolved.NamedIn.{NamedIn}
use Rattle.dtdl_terms.specs.declared.resolved.PartOf.{PartOf}
use Rattle.dtdl_terms.specs.declared.resolved.ResolvedContent.{ResolvedContent}
use Rattle.extend_resolve.specs.Chains.{IsParent, IsChain, IsAncestor}
use Rattle.model_life.specs.resolution.Resolving.{ListsContents}

-- ---- interfaces as a map keeps them
abbrev pub interfaces_in : List (Bor Identifier × Bor Interface) → List Interface
interfaces_in es = map (λ e. e.1.now) es

abbrev pub AreUnderTheirIds : List (Bor Identifier × Bor Interface) → Type 0
AreUnderTheirIds es = AllByRecursion (λ e. dtmi_text e.0.now ≡ dtmi_text e.1.now.id) es

-- the interface stands for its identifier
abbrev pub IsThere : List Interface → Interface → Type 0
IsThere set i = interface_at i.id set ≡ Some i

-- interfaces of a set, with the parents of each
pub record IsFamily (set family : List Interface) : Type 0 where
  pub each : (a : Interface) → IsThere family a → IsThere set a
  pub closed : (a b : Interface) → IsThere family a → IsParent set a b → IsThere family b

-- what is more is a family still, by ancestors of `i` alone
pub record GrowsFamily (set : List Interface) (i : Interface) (old new : List Interface) : Type 0 where
  pub family : IsFamily set new
  pub kept : (a : Interface) → IsThere old a → IsThere new a
  pub only : (a : Interface) → IsThere new a → IsThere old a ⊎ IsAncestor set i a

-- no chain from `i` has more steps
abbrev pub HasShortChains : List Interface → ℕ → Interface → Type 0
HasShortChains set n i = (js : List Interface) → IsChain set i js → length js ≤ n

-- the interface of an identifier is found, where the set has one
abbrev pub IsFoundFor : List Interface → List Interface → Identifier → Type 0
IsFoundFor set family p = (j : Interface) → interface_at p set ≡ Some j → IsThere family j

-- an element stands before position `n`
abbrev pub IsOfFirst : {X : Type 0} → List X → ℕ → X → Type 0
IsOfFirst xs n x = (k : ℕ) × (k < n) × (slice_index_or xs k x ≡ x)

-- an ancestor of one of the first `n`
abbrev pub IsAncestorOfFirst : List Interface → List (Bor Interface) → ℕ → Interface → Type 0
IsAncestorOfFirst set xs n a = (x : Bor Interface) × IsOfFirst xs n x × IsAncestor set x.now a

-- ---- contents
abbrev pub content_at : List ℕ → List ResolvedContent → Option ResolvedContent
content_at name rs = lookup (λ n. is_eq (slice_cmp nat_cmp name n)) (map (λ r. (r.content.name, r)) rs)

abbrev pub HasContent : List ResolvedContent → ResolvedContent → Type 0
HasContent rs r = content_at r.content.name rs ≡ Some r

abbrev pub declared_by : Identifier → Content → ResolvedContent
declared_by id c = record { from = id; content = c }

abbrev pub contents_of_entries : List (Bor (List ℕ) × (Bor Identifier × Bor Content)) → List ResolvedContent
contents_of_entries es = map (λ e. declared_by e.1.0.now e.1.1.now) es

abbrev pub AreUnderTheirNames : List (Bor (List ℕ) × (Bor Identifier × Bor Content)) → Type 0
AreUnderTheirNames es = AllByRecursion (λ e. e.0.now ≡ e.1.1.now.name) es

-- the interface declares the content
abbrev pub IsDeclared : Interface → ResolvedContent → Type 0
IsDeclared i r = (r.from ≡ i.id) × Contains i.contents r.content

abbrev pub IsDeclaredIn : List Interface → ResolvedContent → Type 0
IsDeclaredIn is r = (a : Interface) × Contains is a × IsDeclared a r

-- by one of its first `n` contents
abbrev pub IsDeclaredFirst : Interface → ℕ → ResolvedContent → Type 0
IsDeclaredFirst i n r = (r.from ≡ i.id) × IsOfFirst i.contents n r.content

-- by one of the first `n` interfaces
abbrev pub IsDeclaredByFirst : List (Bor Interface) → ℕ → ResolvedContent → Type 0
IsDeclaredByFirst xs n r = (x : Bor Interface) × IsOfFirst xs n x × IsDeclared x.now r

-- of one name there is one
abbrev pub AreOne : (ResolvedContent → Type 0) → Type 0
AreOne P = (r s : ResolvedContent) → P r → P s → r.content.name ≡ s.content.name → r ≡ s

-- ---- interfaces of components
-- what a component is of, where it is one
abbrev pub kind_id : KindTerm → Option Identifier
kind_id (telemetry schema semantic unit) = None
kind_id (property schema semantic unit writable) = None
kind_id (command request response) = None
kind_id (relationship target properties most writable) = None
kind_id (component of) = Some of

abbrev pub found_at : List Interface → Option Identifier → Option Interface
found_at set None = None
found_at set (Some p) = interface_at p set

-- the interface of a component
abbrev pub part_for : List Interface → Content → Option Interface
part_for set c = found_at set (kind_id (kind_term c.kind))

-- one of the contents is a component of it
abbrev pub IsPartBy : List Interface → List Content → Interface → Type 0
IsPartBy set cs q = (c : Content) × Contains cs c × (part_for set c ≡ Some q)

abbrev pub IsPartByFirst : List Interface → List Content → ℕ → Interface → Type 0
IsPartByFirst set cs n q = (c : Content) × IsOfFirst cs n c × (part_for set c ≡ Some q)

-- one of the first `n` interfaces declares a component of it
abbrev pub IsPartAmongFirst : List Interface → List (Bor Interface) → ℕ → Interface → Type 0
IsPartAmongFirst set xs n q = (x : Bor Interface) × IsOfFirst xs n x × IsPartBy set x.now.contents q

abbrev pub IsPartOf : List Interface → Interface → PartOf → Type 0
IsPartOf set q part = (part.of ≡ q.id) × ListsContents set q part.contents

-- ---- schemas
abbrev pub schemas_of : Interface → NamedIn
schemas_of i = record { of = i.id; schemas = i.schemas }
