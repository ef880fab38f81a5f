-- The parts of JSON values by their keys and positions, as lists.
use Rattle.std.specs.Prelude.{ℕ, List, [], ◌∷◌, Option, Some, None, if◌then◌else◌, bytes_eq}
use Rattle.json_decimal.specs.Number.{Number}
use Rattle.json_tree.specs.Values.{Value, Json, null, truth, number, text, array, object, Elements, no_elements, element, Members, no_members, member}

-- The elements of an array, and the members of an object as pairs of a key and a value.
abbrev pub list_of : {N : Type 0} → Elements N → List (Value N)
list_of no_elements = []
list_of (element v vs) = v ∷ list_of vs

abbrev pub pairs_of : {N : Type 0} → Members N → List (List ℕ × Value N)
pairs_of no_members = []
pairs_of (member key v ms) = (key, v) ∷ pairs_of ms

-- The value of the member with this key.
abbrev pub value_at : List ℕ → Members Number → Option Json
value_at key no_members = None
value_at key (member k v ms) = if bytes_eq k key then Some v else value_at key ms

-- The text, the number, the elements or the members that a value is.
abbrev pub text_in : Json → Option (List ℕ)
text_in null = None
text_in (truth b) = None
text_in (number n) = None
text_in (text bytes) = Some bytes
text_in (array vs) = None
text_in (object ms) = None

abbrev pub entries_in : Json → List Json
entries_in null = []
entries_in (truth b) = []
entries_in (number n) = []
entries_in (text bytes) = []
entries_in (array vs) = list_of vs
entries_in (object ms) = []

abbrev pub members_in : Json → Members Number
members_in null = no_members
members_in (truth b) = no_members
members_in (number n) = no_members
members_in (text bytes) = no_members
members_in (array vs) = no_members
members_in (object ms) = ms

-- What a value has under a key: nothing where it is no object or has no such member.
abbrev pub value_in : List ℕ → Json → Option Json
value_in key v = value_at key (members_in v)
