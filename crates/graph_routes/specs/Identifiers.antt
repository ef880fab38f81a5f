-- The identifiers in a body that have to be those of the path.
use Rattle.std.specs.Prelude.{ℕ, List, Option, Some, None, codes, bytes_eq, if◌then◌else◌}
use Rattle.std.specs.Option.{option_or}
use Rattle.json_decimal.specs.Number.{Number}
use Rattle.json_tree.specs.Values.{Members, no_members, member}
use Rattle.json_tree.specs.Members.{text_in}

-- The identifier of the path that a member with this key has to give: of a twin's body `$dtId`, of a relationship's body
-- `$relationshipId` and `$sourceId`.
abbrev pub twin_ids : List ℕ → List ℕ → Option (List ℕ)
twin_ids id key = if bytes_eq key (codes "$dtId") then Some id else None

abbrev pub link_ids : List ℕ → List ℕ → List ℕ → Option (List ℕ)
link_ids source id key = if bytes_eq key (codes "$relationshipId") then Some id else (if bytes_eq key (codes "$sourceId") then Some source else None)

-- The text that is given and that of the path, where they differ.
abbrev pub difference : Option (List ℕ) → Option (List ℕ) → Option (List ℕ × List ℕ)
difference (Some given) (Some path) = if bytes_eq given path then None else Some (given, path)
difference given path = None

-- The first member that gives another identifier than that of the path: what it gives, and that of the path.
abbrev pub first_difference : (List ℕ → Option (List ℕ)) → Members Number → Option (List ℕ × List ℕ)
first_difference ids no_members = None
first_difference ids (member key v ms) = option_or (difference (text_in v) (ids key)) (first_difference ids ms)
