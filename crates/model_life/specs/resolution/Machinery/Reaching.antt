-- The ancestors of an interface, and the interfaces of its components, picked out of the set.
use Rattle.std.specs.Prelude.{ℕ, zero, suc, List, Bool, false, ◌||◌, Option, Some, None}
use Rattle.std.specs.List.{filter, list_any}
use Rattle.dt_base.specs.names.Grammar.{Identifier, id_eq}
use Rattle.dtdl_terms.specs.Sets.{interface_at}
use Rattle.dtdl_terms.specs.TermViews.{kind_term}
use Rattle.dtdl_terms.specs.declared.interface.Interface.{Interface}
use Rattle.model_life.specs.resolution.Machinery.Families.{kind_id}

abbrev pub found_passes : (Interface → Bool) → Option Interface → Bool
found_passes test None = false
found_passes test (Some i) = test i

-- by at most so many steps from an interface to its parents one of this identifier is reached
abbrev pub reaches : List Interface → Identifier → ℕ → Interface → Bool
reaches set id zero i = id_eq id i.id
reaches set id (suc n) i = id_eq id i.id || list_any (λ p. found_passes (reaches set id n) (interface_at p set)) i.parents

abbrev pub ancestors_in : List Interface → Interface → List Interface
ancestors_in set i = filter (λ a. reaches set a.id 10 i) set

abbrev pub is_named : Identifier → Option Identifier → Bool
is_named id None = false
is_named id (Some p) = id_eq id p

-- one of the contents is a component of the interface of this identifier
abbrev pub has_component : Identifier → Interface → Bool
has_component id a = list_any (λ c. is_named id (kind_id (kind_term c.kind))) a.contents

abbrev pub parts_in : List Interface → Interface → List Interface
parts_in set i = filter (λ q. list_any (has_component q.id) (ancestors_in set i)) set
