-- Tables of what the interfaces of a set have with all that they inherit.
use Rattle.std.specs.Prelude.{◌≡◌, List, None, false, IsSome}
use Rattle.std.specs.List.{AllByRecursion, list_any}
use Rattle.dt_base.specs.names.Grammar.{Identifier, id_eq}
use Rattle.dtdl_terms.specs.Sets.{interface_at}
use Rattle.dtdl_terms.specs.declared.interface.Interface.{Interface}
use Rattle.dtdl_terms.specs.declared.resolved.Resolved.{Resolved}
use Rattle.model_life.specs.resolution.Resolving.{EntryOf, entry_at}

-- The table has an entry of each interface of the set and no other, each with what the interface has.
abbrev pub ResolvesAll : List Interface → List (Identifier × Resolved) → Type 0
ResolvesAll set table = (id : Identifier) → EntryOf set (interface_at id set) (entry_at id table)

-- The same but for the interfaces of some identifiers, which are in the set and not yet in the table.
pub record ResolvesOthers (set : List Interface) (ids : List Identifier) (table : List (Identifier × Resolved)) : Type 0 where
  pub new : AllByRecursion (λ id. IsSome (interface_at id set) × (entry_at id table ≡ None)) ids
  pub others : (id : Identifier) → list_any (id_eq id) ids ≡ false → EntryOf set (interface_at id set) (entry_at id table)
