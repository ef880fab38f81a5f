-- JSON values (RFC 8259, section 3), without where they lie in memory or stand in a text.
use Rattle.std.specs.Prelude.{◌≡◌, ℕ, ◌≤ℤ◌, pos, neg_ℤ, List, [], ◌∷◌, Bool}
use Rattle.json_decimal.specs.Number.{Number}
use Rattle.json_decimal.specs.Literal.{IsLiteralOf}

-- Elements and members stand in the order of the text. Numbers are of any type.
mutual
  pub data Value (N : Type 0) : Type 0 where
    null : Value N
    truth : Bool → Value N
    number : N → Value N
    text : List ℕ → Value N
    array : Elements N → Value N
    object : Members N → Value N

  pub data Elements (N : Type 0) : Type 0 where
    no_elements : Elements N
    element : Value N → Elements N → Elements N

  pub data Members (N : Type 0) : Type 0 where
    no_members : Members N
    member : List ℕ → Value N → Members N → Members N

-- A value as a text spells it: each number is the bytes of its literal.
abbrev pub Raw : Type 0
Raw = Value (List ℕ)

-- A value whose numbers are numbers.
abbrev pub Json : Type 0
Json = Value Number

-- The elements of an array, and the members of an object as pairs of a key and a value, as lists.
abbrev pub elements_of : {N : Type 0} → List (Value N) → Elements N
elements_of [] = no_elements
elements_of (v ∷ vs) = element v (elements_of vs)

abbrev pub members_of : {N : Type 0} → List (List ℕ × Value N) → Members N
members_of [] = no_members
members_of (m ∷ ms) = member m.0 m.1 (members_of ms)

-- No member has this key.
abbrev pub LacksKey : {N : Type 0} → List ℕ → Members N → Type 0
LacksKey key no_members = Unit {0}
LacksKey key (member k v ms) = (key ≡ k → ⊥) × LacksKey key ms

-- No object, at any depth, has two members of one key.
abbrev mutual
  pub HasDistinctKeys : {N : Type 0} → Value N → Type 0
  HasDistinctKeys null = Unit {0}
  HasDistinctKeys (truth b) = Unit {0}
  HasDistinctKeys (number n) = Unit {0}
  HasDistinctKeys (text bytes) = Unit {0}
  HasDistinctKeys (array vs) = ElementsHaveDistinctKeys vs
  HasDistinctKeys (object ms) = MembersHaveDistinctKeys ms

  pub ElementsHaveDistinctKeys : {N : Type 0} → Elements N → Type 0
  ElementsHaveDistinctKeys no_elements = Unit {0}
  ElementsHaveDistinctKeys (element v vs) = HasDistinctKeys v × ElementsHaveDistinctKeys vs

  pub MembersHaveDistinctKeys : {N : Type 0} → Members N → Type 0
  MembersHaveDistinctKeys no_members = Unit {0}
  MembersHaveDistinctKeys (member k v ms) = LacksKey k ms × HasDistinctKeys v × MembersHaveDistinctKeys ms

-- The exponent is from -900 to 900.
pub record IsInRange (n : Number) : Type 0 where
  pub low : neg_ℤ (pos 900) ≤ℤ n.exponent
  pub high : n.exponent ≤ℤ pos 900

-- The second value is the first with each literal read as the number, from exponent -900 to 900, that it stands
-- for.
abbrev mutual
  pub IsReadAs : Raw → Json → Type 0
  IsReadAs null w = w ≡ null
  IsReadAs (truth b) w = w ≡ truth b
  IsReadAs (number literal) w = (n : Number) × IsLiteralOf literal n × IsInRange n × (w ≡ number n)
  IsReadAs (text bytes) w = w ≡ text bytes
  IsReadAs (array vs) w = (ws : Elements Number) × ElementsAreReadAs vs ws × (w ≡ array ws)
  IsReadAs (object ms) w = (ns : Members Number) × MembersAreReadAs ms ns × (w ≡ object ns)

  pub ElementsAreReadAs : Elements (List ℕ) → Elements Number → Type 0
  ElementsAreReadAs no_elements ws = ws ≡ no_elements
  ElementsAreReadAs (element v vs) ws = (x : Json) × (xs : Elements Number)
      × IsReadAs v x × ElementsAreReadAs vs xs × (ws ≡ element x xs)

  pub MembersAreReadAs : Members (List ℕ) → Members Number → Type 0
  MembersAreReadAs no_members ns = ns ≡ no_members
  MembersAreReadAs (member key v ms) ns = (x : Json) × (xs : Members Number)
      × IsReadAs v x × MembersAreReadAs ms xs × (ns ≡ member key x xs)
