-- The rules on sets of interfaces (this project's own, by the limits of DTDL v2, "Interface"), each one predicate over
-- the whole set.
use Rattle.std.specs.Prelude.{◌≡◌, ◌<◌, ◌⊎◌, ℕ, List, ◌∷◌, ◌++◌, map, sum, length, slice_get, Some, None, Contains}
use Rattle.std.specs.List.{AllByRecursion}
use Rattle.dt_base.specs.names.Grammar.{Identifier, dtmi_text}
use Rattle.dtdl_terms.specs.Distinct.{AreDistinct}
use Rattle.dtdl_terms.specs.Sets.{interface_at}
use Rattle.dtdl_terms.specs.Terms.{component}
use Rattle.dtdl_terms.specs.TermViews.{kind_term}
use Rattle.dtdl_terms.specs.declared.content.Content.{Content}
use Rattle.dtdl_terms.specs.declared.interface.Interface.{Interface}
use Rattle.dtdl_terms.specs.declared.uploaded.Uploaded.{Uploaded}
use Rattle.extend_resolve.specs.Chains.{HaveOneId, IsChain, IsAncestor, LeadsBack, ReachesCycle, Declares, Reaches}

-- the old set with the new interfaces
abbrev pub together : List Interface → List Uploaded → List Interface
together set new = set ++ map (λ u. u.interface) new

-- the parent at position `k` is named so, and is the interface `j` of the set
abbrev pub NamesParent : Interface → ℕ → Identifier → Type 0
NamesParent i k p = slice_get i.parents k ≡ Some p

abbrev pub HasParent : List Interface → Interface → ℕ → Interface → Type 0
HasParent set i k j = (p : Identifier) × NamesParent i k p × (interface_at p set ≡ Some j)

-- a component of the interface with this identifier (DTDL v2, "Component")
abbrev pub IsComponentOf : Content → Identifier → Type 0
IsComponentOf c p = kind_term c.kind ≡ component p

abbrev pub NamesComponent : Interface → ℕ → Identifier → Type 0
NamesComponent i k p = (c : Content) × (slice_get i.contents k ≡ Some c) × IsComponentOf c p

abbrev pub HasComponent : List Interface → Interface → ℕ → Interface → Type 0
HasComponent set i k j = (p : Identifier) × NamesComponent i k p × (interface_at p set ≡ Some j)

-- ---- the rules
-- an earlier interface has its identifier
abbrev pub RepeatsId : List Interface → Interface → Type 0
RepeatsId earlier i = (e : Interface) × Contains earlier e × HaveOneId e i

-- the parent at position `k`, or the interface of the component there, is not in the set
abbrev pub LacksParent : List Interface → Interface → ℕ → Type 0
LacksParent set i k = (p : Identifier) × NamesParent i k p × (interface_at p set ≡ None)

abbrev pub LacksComponent : List Interface → Interface → ℕ → Type 0
LacksComponent set i k = (p : Identifier) × NamesComponent i k p × (interface_at p set ≡ None)

-- a chain that begins with the step to the parent at position `k` leads back to the interface
abbrev pub IsInCycle : List Interface → Interface → ℕ → Type 0
IsInCycle set i k = (j : Interface) × HasParent set i k j × LeadsBack set i j

-- no cycle is reached, and a chain of 11 steps begins here
pub record IsLongChain (set : List Interface) (i : Interface) : Type 0 where
  pub ends : ReachesCycle set i → ⊥
  pub long : (js : List Interface) × IsChain set i js × (length js ≡ 11)

-- the interface itself declares the name, and `j` is another one
abbrev pub ClashesWithOwn : Interface → Interface → List ℕ → Type 0
ClashesWithOwn i j name = Declares i name × (HaveOneId j i → ⊥)

-- a parent before position `k` reaches a declaration of the name in another interface than `j`
abbrev pub ClashesWithEarlier : List Interface → Interface → ℕ → Interface → List ℕ → Type 0
ClashesWithEarlier set i k j name =
    (l : ℕ) × (q m : Interface) × (l < k) × HasParent set i l q × Reaches set q m name × (HaveOneId m j → ⊥)

-- The parent at position `k` reaches a declaration that clashes. One declaration that comes along two ways is no clash.
abbrev pub HasNameClash : List Interface → Interface → ℕ → Type 0
HasNameClash set i k =
    (q j : Interface) × (name : List ℕ) × HasParent set i k q × Reaches set q j name × (ClashesWithOwn i j name ⊎ ClashesWithEarlier set i k j name)

-- an interface that declares a component
abbrev pub DeclaresComponent : Interface → Type 0
DeclaresComponent i = (c : Content) × (p : Identifier) × Contains i.contents c × IsComponentOf c p

-- the interface of the component at position `k`, or an ancestor of it, declares a component
abbrev pub HasComponentInComponent : List Interface → Interface → ℕ → Type 0
HasComponentInComponent set i k = (q a : Interface) × HasComponent set i k q × IsAncestor set q a × DeclaresComponent a

-- The interface and some of its ancestors, no two of one identifier, declare together more than 3,000 contents.
abbrev pub HasTooManyContents : List Interface → Interface → Type 0
HasTooManyContents set i = (others : List Interface) × AllByRecursion (IsAncestor set i) others
    × AreDistinct (map (λ a. dtmi_text a.id) (i ∷ others)) × (3000 < sum (map (λ a. length a.contents) (i ∷ others)))
