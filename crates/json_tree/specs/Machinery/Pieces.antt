-- The pieces of a printed text, and what holds of what trees hold. No public contract speaks of these words.
use Rattle.std.specs.Prelude.{◌≡◌, ℕ, zero, suc, ◌<◌, ◌⊎◌, List, [], ◌∷◌}
use Rattle.std.specs.Str.{IsUtf8}
use Rattle.json_decimal.specs.Number.{Number}
use Rattle.json_decimal.specs.Literal.{IsLiteralOf}
use Rattle.json_decimal.specs.Printing.{text_of}
use Rattle.json_tree.specs.Values.{IsInRange, Json, null, truth, number, text, array, object, Elements, no_elements, element, Members, no_members, member}
use Rattle.json_tree.specs.Printing.{escaped_byte}

-- A byte that is printed as it is, and one that is not.
abbrev pub IsPlain : ℕ → Type 0
IsPlain b = escaped_byte b ≡ b ∷ []

abbrev pub IsEscaped : ℕ → Type 0
IsEscaped b = (b < 32) ⊎ (b ≡ 34) ⊎ (b ≡ 92)

-- What stands before the element or member at a position.
abbrev pub comma_before : ℕ → List ℕ
comma_before zero = []
comma_before (suc n) = 44 ∷ []

-- What holds of the value of each tree: texts and keys are UTF-8, and each number is in range and reads back.
abbrev mutual
  pub IsOfTree : Json → Type 0
  IsOfTree null = Unit {0}
  IsOfTree (truth b) = Unit {0}
  IsOfTree (number n) = IsLiteralOf (text_of n) n × IsInRange n
  IsOfTree (text bytes) = IsUtf8 bytes
  IsOfTree (array vs) = AreOfTrees vs
  IsOfTree (object ms) = MembersAreOfTrees ms

  pub AreOfTrees : Elements Number → Type 0
  AreOfTrees no_elements = Unit {0}
  AreOfTrees (element v vs) = IsOfTree v × AreOfTrees vs

  pub MembersAreOfTrees : Members Number → Type 0
  MembersAreOfTrees no_members = Unit {0}
  MembersAreOfTrees (member key v ms) = IsUtf8 key × IsOfTree v × MembersAreOfTrees ms
