-- Whether a chain of so many steps at most reaches an identifier.
use Rattle.std.specs.Prelude.{ℕ, zero, suc, List, Bool, false, ◌||◌, Option, Some, None}
use Rattle.std.specs.List.{list_any}
use Rattle.dt_base.specs.names.Grammar.{Identifier, id_eq}
use Rattle.dtdl_terms.specs.Sets.{interface_at}
use Rattle.dtdl_terms.specs.declared.interface.Interface.{Interface}

abbrev pub interface_passes : (Interface → Bool) → Option Interface → Bool
interface_passes test None = false
interface_passes test (Some i) = test i

abbrev pub reaches_within : List Interface → Identifier → ℕ → Interface → Bool
reaches_within set id zero i = id_eq i.id id
reaches_within set id (suc n) i = id_eq i.id id || list_any (λ p. interface_passes (reaches_within set id n) (interface_at p set)) i.parents

-- whether the interface of one of these identifiers does
abbrev pub any_within : List Interface → Identifier → ℕ → List Identifier → Bool
any_within set id n ps = list_any (λ p. interface_passes (reaches_within set id n) (interface_at p set)) ps
