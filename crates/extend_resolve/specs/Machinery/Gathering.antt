-- How the interfaces that new ones lead to are gathered: each identifier that is met, with the interface that stands for it.
use Rattle.std.specs.Prelude.{◌≡◌, ℕ, List, [], ◌∷◌, ◌++◌, Bool, cond, map, take, Option, Some, None, IsSome}
use Rattle.std.specs.Option.{is_some, option_to_list}
use Rattle.std.specs.Ordering.{is_eq}
use Rattle.std.specs.List.{AllByRecursion, IsDistinct, filter_map}
use Rattle.dt_base.specs.names.Grammar.{Identifier, id_cmp}
use Rattle.dtdl_terms.specs.Sets.{interface_at}
use Rattle.dtdl_terms.specs.Terms.{KindTerm, component}
use Rattle.dtdl_terms.specs.TermViews.{kind_term}
use Rattle.dtdl_terms.specs.declared.content.Content.{Content}
use Rattle.dtdl_terms.specs.declared.interface.Interface.{Interface}
use Rattle.extend_resolve.specs.Machinery.Numbers.{number_at, kept_at}

-- the identifiers of an interface's components
abbrev pub id_of_kind : KindTerm → Option Identifier
id_of_kind (component p) = Some p
id_of_kind other = None

abbrev pub component_id : Content → Option Identifier
component_id c = id_of_kind (kind_term c.kind)

abbrev pub component_ids : Interface → List Identifier
component_ids i = filter_map component_id i.contents

-- with the interface of a set that has an identifier, where none with it is there
abbrev pub with_id : List Interface → List Interface → Identifier → List Interface
with_id set nodes p = cond (is_some (number_at p nodes)) nodes (nodes ++ option_to_list (interface_at p set))

abbrev pub with_ids : List Interface → List Interface → List Identifier → List Interface
with_ids set nodes [] = nodes
with_ids set nodes (p ∷ ps) = with_ids set (with_id set nodes p) ps

-- with the interfaces of the components of each of these
abbrev pub with_components : List Interface → List Interface → List Interface → List Interface
with_components set nodes [] = nodes
with_components set nodes (i ∷ is) = with_components set (with_ids set nodes (component_ids i)) is

-- the number that is kept for each identifier is that of the first with it
abbrev pub AreNumbered : List (Identifier × ℕ) → List Interface → Type 0
AreNumbered numbers nodes = (id : Identifier) → kept_at id numbers ≡ number_at id nodes

abbrev pub have_one_id : Identifier → Identifier → Bool
have_one_id p q = is_eq (id_cmp p q)

-- behind the new interfaces stand some of the set, each once
pub record IsGathering (set new nodes : List Interface) : Type 0 where
  pub more : List Interface
  pub split : nodes ≡ new ++ more
  pub there : AllByRecursion (λ i. interface_at i.id set ≡ Some i) more
  pub distinct : IsDistinct have_one_id (map (λ i. i.id) more)

-- what stands in the set for one of these identifiers is there
abbrev pub AreThere : List Interface → List Interface → List Identifier → Type 0
AreThere set nodes ps = AllByRecursion (λ p. IsSome (interface_at p set) → IsSome (number_at p nodes)) ps

abbrev pub HaveParents : List Interface → List Interface → List Interface → Type 0
HaveParents set nodes is = AllByRecursion (λ i. AreThere set nodes i.parents) is

abbrev pub HaveComponents : List Interface → List Interface → List Interface → Type 0
HaveComponents set nodes is = AllByRecursion (λ i. AreThere set nodes (component_ids i)) is

-- So far the parents of the first `at` are there, and the interfaces of the components of the new ones.
pub record IsGathered (set new nodes : List Interface) (at : ℕ) : Type 0 where
  pub gathering : IsGathering set new nodes
  pub components : HaveComponents set nodes new
  pub parents : HaveParents set nodes (take at nodes)
