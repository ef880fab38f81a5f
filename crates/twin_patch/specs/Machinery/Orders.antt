-- Members in the order of their keys, and where a key stands among them.
use Rattle.std.specs.Prelude.{◌≡◌, ℕ, zero, suc, List, [], ◌∷◌, Result, Ok, Err, Option, Some, None, Bool, true, ◌&&◌}
use Rattle.std.specs.Ordering.{nat_cmp, is_lt}
use Rattle.std.specs.declared.cmp.Ordering.{Ordering}
use Rattle.std.specs.declared.cmp.Ordering.TheVariants.{Less, Greater}
use Rattle.std.specs.Cmp.Lexicographic.{slice_cmp}
use Rattle.json_decimal.specs.Number.{Number}
use Rattle.json_tree.specs.Values.{Json, null, truth, number, text, array, object, Elements, no_elements, element, Members, no_members, member}

abbrev pub compared_keys : List ℕ → List ℕ → Ordering
compared_keys = slice_cmp nat_cmp

-- The key comes before all keys of the members.
abbrev pub IsBeforeAll : List ℕ → Members Number → Type 0
IsBeforeAll key no_members = Unit {0}
IsBeforeAll key (member k v ms) = (compared_keys key k ≡ Less) × IsBeforeAll key ms

-- The keys rise.
abbrev pub KeysRise : Members Number → Type 0
KeysRise no_members = Unit {0}
KeysRise (member key v ms) = IsBeforeAll key ms × KeysRise ms

-- The same as a test.
abbrev pub is_before_all : List ℕ → Members Number → Bool
is_before_all key no_members = true
is_before_all key (member k v ms) = is_lt (compared_keys key k) && is_before_all key ms

abbrev pub rises : Members Number → Bool
rises no_members = true
rises (member key v ms) = is_before_all key ms && rises ms

-- The keys of each object, at every depth, rise.
abbrev mutual
  pub IsInOrder : Json → Type 0
  IsInOrder null = Unit {0}
  IsInOrder (truth b) = Unit {0}
  IsInOrder (number n) = Unit {0}
  IsInOrder (text bytes) = Unit {0}
  IsInOrder (array vs) = ElementsAreInOrder vs
  IsInOrder (object ms) = AreInOrder ms

  pub ElementsAreInOrder : Elements Number → Type 0
  ElementsAreInOrder no_elements = Unit {0}
  ElementsAreInOrder (element v vs) = IsInOrder v × ElementsAreInOrder vs

  pub AreInOrder : Members Number → Type 0
  AreInOrder no_members = Unit {0}
  AreInOrder (member key v ms) = IsBeforeAll key ms × IsInOrder v × AreInOrder ms

-- The key stands at a position: behind lesser ones.
abbrev pub IsFoundAt : List ℕ → Members Number → ℕ → Type 0
IsFoundAt key no_members at = ⊥
IsFoundAt key (member k v ms) zero = key ≡ k
IsFoundAt key (member k v ms) (suc at) = (compared_keys key k ≡ Greater) × IsFoundAt key ms at

-- It would stand there: behind lesser ones, and before greater ones.
abbrev pub IsMissingAt : List ℕ → Members Number → ℕ → Type 0
IsMissingAt key no_members zero = Unit {0}
IsMissingAt key no_members (suc at) = ⊥
IsMissingAt key (member k v ms) zero = IsBeforeAll key (member k v ms)
IsMissingAt key (member k v ms) (suc at) = (compared_keys key k ≡ Greater) × IsMissingAt key ms at

-- What a search for a key answers.
abbrev pub Stands : List ℕ → Members Number → Result ℕ ℕ → Type 0
Stands key ms (Ok at) = IsFoundAt key ms at
Stands key ms (Err at) = IsMissingAt key ms at

-- The members with another value at a position.
abbrev pub put_at : ℕ → Json → Members Number → Members Number
put_at at v no_members = no_members
put_at zero v (member k w ms) = member k v ms
put_at (suc at) v (member k w ms) = member k w (put_at at v ms)
