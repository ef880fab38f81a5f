-- The text of a JSON value without white space, its members in their order.
use Rattle.std.specs.Prelude.{◌≡◌, ℕ, suc, ◌+◌, ◌/◌, ◌%◌, ◌==◌, nat_lt, if◌then◌else◌, List, [], ◌∷◌, ◌++◌, codes}
use Rattle.json_decimal.specs.Printing.{text_of}
use Rattle.json_tree.specs.Values.{Json, null, truth, number, text, array, object, Value, Elements, no_elements, element, Members, no_members, member}
use Rattle.json_decimal.specs.Number.{Number}
use Rattle.json_tree.specs.Grammar.{literal_name}

-- A hexadecimal digit, in lower case.
abbrev pub hex_digit : ℕ → ℕ
hex_digit n = if nat_lt n 10 then 48 + n else 87 + n

-- A control by its code, in two digits.
abbrev pub code_escape : ℕ → List ℕ
code_escape b = codes "\\u00" ++ hex_digit (b / 16) ∷ hex_digit (b % 16) ∷ []

-- A byte of a text: `"` and `\` behind a backslash, the five controls `\b`, `\t`, `\n`, `\f` and `\r`, each other
-- byte below 32 as `\u00` and two digits, and every other byte as it is.
abbrev pub escaped_byte : ℕ → List ℕ
escaped_byte b =
    if b == 34 then codes "\\\""
    else if b == 92 then codes "\\\\"
    else if b == 8 then codes "\\b"
    else if b == 9 then codes "\\t"
    else if b == 10 then codes "\\n"
    else if b == 12 then codes "\\f"
    else if b == 13 then codes "\\r"
    else if nat_lt b 32 then code_escape b
    else b ∷ []

abbrev pub escaped : List ℕ → List ℕ
escaped [] = []
escaped (b ∷ bytes) = escaped_byte b ++ escaped bytes

-- A text between quotation marks.
abbrev pub quoted : List ℕ → List ℕ
quoted bytes = 34 ∷ (escaped bytes ++ 34 ∷ [])

-- Elements and members with commas between them, up to the closing bracket or brace.
abbrev mutual
  pub printed : Json → List ℕ
  printed null = codes "null"
  printed (truth b) = literal_name b
  printed (number n) = text_of n
  printed (text bytes) = quoted bytes
  printed (array vs) = 91 ∷ printed_elements vs
  printed (object ms) = 123 ∷ printed_members ms

  pub printed_elements : Elements Number → List ℕ
  printed_elements no_elements = 93 ∷ []
  printed_elements (element v vs) = printed v ++ printed_more_elements vs

  pub printed_more_elements : Elements Number → List ℕ
  printed_more_elements no_elements = 93 ∷ []
  printed_more_elements (element v vs) = 44 ∷ (printed v ++ printed_more_elements vs)

  pub printed_members : Members Number → List ℕ
  printed_members no_members = 125 ∷ []
  printed_members (member key v ms) = quoted key ++ 58 ∷ (printed v ++ printed_more_members ms)

  pub printed_more_members : Members Number → List ℕ
  printed_more_members no_members = 125 ∷ []
  printed_more_members (member key v ms) = 44 ∷ (quoted key ++ 58 ∷ (printed v ++ printed_more_members ms))

-- Arrays and objects nest at most so deep, where the outermost counts as 1.
abbrev mutual
  pub NestsWithin : {N : Type 0} → ℕ → Value N → Type 0
  NestsWithin depth null = Unit {0}
  NestsWithin depth (truth b) = Unit {0}
  NestsWithin depth (number n) = Unit {0}
  NestsWithin depth (text bytes) = Unit {0}
  NestsWithin depth (array vs) = (inner : ℕ) × (depth ≡ suc inner) × ElementsNestWithin inner vs
  NestsWithin depth (object ms) = (inner : ℕ) × (depth ≡ suc inner) × MembersNestWithin inner ms

  pub ElementsNestWithin : {N : Type 0} → ℕ → Elements N → Type 0
  ElementsNestWithin depth no_elements = Unit {0}
  ElementsNestWithin depth (element v vs) = NestsWithin depth v × ElementsNestWithin depth vs

  pub MembersNestWithin : {N : Type 0} → ℕ → Members N → Type 0
  MembersNestWithin depth no_members = Unit {0}
  MembersNestWithin depth (member key v ms) = NestsWithin depth v × MembersNestWithin depth ms
