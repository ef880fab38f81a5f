-- The interfaces of a set by their numbers.
use Rattle.std.specs.Prelude.{ℕ, List, Option, Some, None, cond, map}
use Rattle.std.specs.Option.{option_or}
use Rattle.std.specs.Ordering.{is_eq}
use Rattle.std.specs.List.{filter_map, position_from}
use Rattle.std.specs.Map.{lookup}
use Rattle.std.specs.BTreeMap.{is_at}
use Rattle.dt_base.specs.names.Grammar.{Identifier, id_cmp}
use Rattle.dtdl_terms.specs.declared.interface.Interface.{Interface}

-- the number of the first interface with an identifier
abbrev pub number_at : Identifier → List Interface → Option ℕ
number_at id is = position_from (λ i. is_eq (id_cmp id i.id)) 0 is

-- the number that is kept under an identifier
abbrev pub kept_at : Identifier → List (Identifier × ℕ) → Option ℕ
kept_at id numbers = lookup (is_at (id_cmp id)) numbers

-- the number, for this identifier alone
abbrev pub number_for : Identifier → ℕ → Identifier → Option ℕ
number_for id number q = cond (is_eq (id_cmp q id)) (Some number) None

-- the numbers of the parents that are there
abbrev pub parent_numbers : List Interface → Interface → List ℕ
parent_numbers set i = filter_map (λ p. number_at p set) i.parents

abbrev pub all_links : List Interface → List (List ℕ)
all_links set = map (parent_numbers set) set
