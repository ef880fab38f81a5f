-- Objects and lists whose parts stand in order.
use Rattle.std.specs.Prelude.{ℕ, List, [], ◌∷◌, map, Option, Some, None}
use Rattle.json_tree.specs.Values.{Json, array, object, elements_of, members_of}
use Rattle.canon_text.specs.Sorting.{sorted_by}

-- The members of an object by a table of its keys: a key without a value is left out.
abbrev pub present : List (List ℕ × Option Json) → List (List ℕ × Json)
present [] = []
present ((key, None) ∷ parts) = present parts
present ((key, Some v) ∷ parts) = (key, v) ∷ present parts

abbrev pub object_of_parts : List (List ℕ × Option Json) → Json
object_of_parts parts = object (members_of (present parts))

-- Named values in the order of their names: as the members of an object, and as a list of the values alone.
abbrev pub members_in_order : List (List ℕ × Json) → Json
members_in_order ms = object (members_of (sorted_by (λ (m : List ℕ × Json). m.0) ms))

abbrev pub list_in_order : List (List ℕ × Json) → Json
list_in_order ms = array (elements_of (map (λ (m : List ℕ × Json). m.1) (sorted_by (λ (m : List ℕ × Json). m.0) ms)))

-- Left out where there is none.
abbrev pub unless_empty : (List (List ℕ × Json) → Json) → List (List ℕ × Json) → Option Json
unless_empty value [] = None
unless_empty value (m ∷ ms) = Some (value (m ∷ ms))
