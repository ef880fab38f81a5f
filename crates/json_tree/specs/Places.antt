-- Places in a value: its parts by their positions, what stands at a place, and the order of places.
use Rattle.std.specs.Prelude.{◌≡◌, ℕ, zero, suc, ◌<◌, ◌⊎◌, List, [], ◌∷◌, Option, Some, None}
use Rattle.json_tree.specs.Values.{Value, array, object, Elements, no_elements, element, Members, no_members, member}

-- The parts of a value: the elements of an array and the values of an object's members, counted from 0.
abbrev pub element_at : {N : Type 0} → Elements N → ℕ → Option (Value N)
element_at no_elements i = None
element_at (element v vs) zero = Some v
element_at (element v vs) (suc i) = element_at vs i

abbrev pub member_at : {N : Type 0} → Members N → ℕ → Option (List ℕ × Value N)
member_at no_members i = None
member_at (member key v ms) zero = Some (key, v)
member_at (member key v ms) (suc i) = member_at ms i

-- The value is this part of the other.
abbrev pub IsPart : {N : Type 0} → Value N → ℕ → Value N → Type 0
IsPart (array vs) i part = element_at vs i ≡ Some part
IsPart (object ms) i part = (key : List ℕ) × (member_at ms i ≡ Some (key, part))
IsPart other i part = ⊥

-- The value stands at a place, the list of the ordinals on the way to it.
abbrev pub StandsAt : {N : Type 0} → Value N → List ℕ → Value N → Type 0
StandsAt whole [] v = whole ≡ v
StandsAt {N = N} whole (i ∷ place) v = (part : Value N) × IsPart whole i part × StandsAt part place v

-- Something stands at the place.
abbrev pub IsSomewhere : {N : Type 0} → Value N → List ℕ → Type 0
IsSomewhere {N = N} v place = (part : Value N) × StandsAt v place part

-- Preorder: a value comes before its parts, and these in their order.
abbrev pub IsBefore : List ℕ → List ℕ → Type 0
IsBefore place [] = ⊥
IsBefore [] (j ∷ other) = Unit {0}
IsBefore (i ∷ place) (j ∷ other) = (i < j) ⊎ ((i ≡ j) × IsBefore place other)
