-- How many bytes the texts of elements and members have, each with what stands before the next one.
use Rattle.std.specs.Prelude.{ℕ, ◌+◌, List, length}
use Rattle.json_decimal.specs.Number.{Number}
use Rattle.json_tree.specs.Values.{Json, Elements, no_elements, element, Members, no_members, member}
use Rattle.json_tree.specs.Printing.{quoted, printed}

-- Elements, each with one comma.
abbrev pub elements_length : Elements Number → ℕ
elements_length no_elements = 0
elements_length (element v vs) = length (printed v) + 1 + elements_length vs

-- A member with its colon and one comma.
abbrev pub member_length : List ℕ × Json → ℕ
member_length m = length (quoted m.0) + length (printed m.1) + 2

-- Members, each with its colon and one comma.
abbrev pub members_length : Members Number → ℕ
members_length no_members = 0
members_length (member key v ms) = member_length (key, v) + members_length ms
