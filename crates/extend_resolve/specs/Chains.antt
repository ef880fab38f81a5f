-- Chains of extension (DTDL v2, "Interface", the property `extends`) in a set of interfaces, in which each interface is
-- found by its identifier; of equal identifiers the first stands for it.
use Rattle.std.specs.Prelude.{◌≡◌, ℕ, List, [], ◌∷◌, map, Some, Contains}
use Rattle.dt_base.specs.names.Grammar.{Identifier, dtmi_text}
use Rattle.dtdl_terms.specs.Sets.{interface_at}
use Rattle.dtdl_terms.specs.declared.interface.Interface.{Interface}

-- equal identifiers
abbrev pub HaveOneId : Interface → Interface → Type 0
HaveOneId i j = dtmi_text i.id ≡ dtmi_text j.id

-- `i` names `j` as a parent
abbrev pub IsParent : List Interface → Interface → Interface → Type 0
IsParent set i j = (p : Identifier) × Contains i.parents p × (interface_at p set ≡ Some j)

-- behind `i` each interface of the list is named as a parent by the one before it: a chain of as many steps
abbrev pub IsChain : List Interface → Interface → List Interface → Type 0
IsChain set i [] = Unit {0}
IsChain set i (j ∷ js) = IsParent set i j × IsChain set j js

-- the interface that a chain reaches
abbrev pub chain_end : Interface → List Interface → Interface
chain_end i [] = i
chain_end i (j ∷ js) = chain_end j js

-- a chain from `i` reaches it; `i` is its own ancestor
abbrev pub IsAncestor : List Interface → Interface → Interface → Type 0
IsAncestor set i a = (js : List Interface) × IsChain set i js × (chain_end i js ≡ a)

-- a chain from `j` leads back to `i`
abbrev pub LeadsBack : List Interface → Interface → Interface → Type 0
LeadsBack set i j = (a : Interface) × IsAncestor set j a × HaveOneId a i

-- from some ancestor of `i` a step and a chain lead back to it
abbrev pub ReachesCycle : List Interface → Interface → Type 0
ReachesCycle set i = (a j : Interface) × IsAncestor set i a × IsParent set a j × LeadsBack set a j

-- a declaration: an interface and a name that one of its contents has
abbrev pub Declares : Interface → List ℕ → Type 0
Declares i name = Contains (map (λ c. c.name) i.contents) name

-- the declarations of an interface and of its ancestors
abbrev pub Reaches : List Interface → Interface → Interface → List ℕ → Type 0
Reaches set i j name = IsAncestor set i j × Declares j name
