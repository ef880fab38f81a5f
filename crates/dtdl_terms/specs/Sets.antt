-- Sets of interfaces: a finite map from identifier to interface, as the list of its interfaces in the order of the
-- printed bytes of their identifiers.
use Rattle.std.specs.Prelude.{List, Bool, true, Option, Some, None, map, slice_get}
use Rattle.std.specs.Ordering.{is_lt}
use Rattle.std.specs.List.{filter}
use Rattle.std.specs.List.Sorted.{IsStrictlySortedBy}
use Rattle.std.specs.Map.{lookup, remove_entry, values_of}
use Rattle.std.specs.BTreeMap.{is_at, insert_entry}
use Rattle.dt_base.specs.names.Grammar.{Identifier, id_cmp}
use Rattle.dtdl_terms.specs.declared.interface.Interface.{Interface}

-- each interface under its identifier
abbrev pub keyed : List Interface → List (Identifier × Interface)
keyed is = map (λ i. (i.id, i)) is

-- the identifiers ascend, so that no two interfaces have one
abbrev pub InOrder : List Interface → Type 0
InOrder is = IsStrictlySortedBy id_cmp (map (λ i. i.id) is)

-- the interface with this identifier
abbrev pub interface_at : Identifier → List Interface → Option Interface
interface_at id is = lookup (is_at (id_cmp id)) (keyed is)

-- with an interface at its place
abbrev pub with_interface : Interface → List Interface → List Interface
with_interface i is = values_of (insert_entry id_cmp (keyed is) i.id i)

-- without the interface with this identifier
abbrev pub without_interface : Identifier → List Interface → List Interface
without_interface id is = values_of (remove_entry (is_at (id_cmp id)) (keyed is))

-- the interface stands past this identifier; past none each stands
abbrev pub is_past : Option Identifier → Interface → Bool
is_past None i = true
is_past (Some id) i = is_lt (id_cmp id i.id)

-- the first interface past an identifier, or the first of all
abbrev pub next_past : Option Identifier → List Interface → Option Interface
next_past id is = slice_get (filter (is_past id) is) 0
