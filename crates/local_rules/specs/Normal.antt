-- Values whose numbers are in normal form, as those of each document that was read from a text are.
use Rattle.std.specs.Prelude.{◌≡◌, ◌≢◌, ◌%◌}
use Rattle.json_decimal.specs.Number.{Number, zero_number}
use Rattle.json_tree.specs.Values.{Json, null, truth, number, text, array, object, Elements, no_elements, element, Members, no_members, member}

-- The coefficient has no zero at its end, and zero is written in one way.
pub record IsNormal (n : Number) : Type 0 where
  pub zero : n.coefficient ≡ 0 → n ≡ zero_number
  pub other : n.coefficient ≢ 0 → n.coefficient % 10 ≢ 0

abbrev mutual
  pub HasNormalNumbers : Json → Type 0
  HasNormalNumbers null = Unit {0}
  HasNormalNumbers (truth b) = Unit {0}
  HasNormalNumbers (number n) = IsNormal n
  HasNormalNumbers (text bytes) = Unit {0}
  HasNormalNumbers (array vs) = ElementsHaveNormalNumbers vs
  HasNormalNumbers (object ms) = MembersHaveNormalNumbers ms

  pub ElementsHaveNormalNumbers : Elements Number → Type 0
  ElementsHaveNormalNumbers no_elements = Unit {0}
  ElementsHaveNormalNumbers (element v vs) = HasNormalNumbers v × ElementsHaveNormalNumbers vs

  pub MembersHaveNormalNumbers : Members Number → Type 0
  MembersHaveNormalNumbers no_members = Unit {0}
  MembersHaveNormalNumbers (member key v ms) = HasNormalNumbers v × MembersHaveNormalNumbers ms
