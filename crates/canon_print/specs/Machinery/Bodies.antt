-- What is still to be printed of lists and objects, and what an element or a member takes off it.
use Rattle.std.specs.Prelude.{◌≡◌, ℕ, zero, suc, List, [], ◌∷◌, ◌++◌, Bool, true, false, Option}
use Rattle.json_tree.specs.Values.{Json, Elements, Members, members_of}
use Rattle.json_tree.specs.Printing.{quoted, printed, printed_elements, printed_more_elements, printed_members, printed_more_members}
use Rattle.json_decimal.specs.Number.{Number}
use Rattle.canon_text.specs.Objects.{present, object_of_parts}

-- What stands before a member, of which this may be the first.
abbrev pub comma_unless : Bool → List ℕ
comma_unless true = []
comma_unless false = 44 ∷ []

-- A key and the colon.
abbrev pub head_text : List ℕ → List ℕ
head_text key = quoted key ++ 58 ∷ []

-- Elements from a position on, and the closing bracket.
abbrev pub elements_left : ℕ → Elements Number → List ℕ
elements_left zero vs = printed_elements vs
elements_left (suc n) vs = printed_more_elements vs

-- Members from a position on, and the closing brace.
abbrev pub entries_left : ℕ → Members Number → List ℕ
entries_left zero ms = printed_members ms
entries_left (suc n) ms = printed_more_members ms

-- Members and the closing brace; whether none is printed yet decides on the first comma.
abbrev pub members_left : Bool → Members Number → List ℕ
members_left true ms = printed_members ms
members_left false ms = printed_more_members ms

-- The members of these parts and the closing brace.
abbrev pub parts_left : Bool → List (List ℕ × Option Json) → List ℕ
parts_left first parts = members_left first (members_of (present parts))

-- A text to which this part was printed, whatever parts come behind it.
abbrev pub IsPrinted : List ℕ → List ℕ → Bool → Bool → List ℕ → Option Json → Type 0
IsPrinted before now first after key v = (parts : List (List ℕ × Option Json)) → before ++ parts_left first ((key, v) ∷ parts) ≡ now ++ parts_left after parts

-- A text to which an object was printed up to these parts, whatever parts come behind them.
abbrev pub IsBegun : List ℕ → List ℕ → Bool → List (List ℕ × Option Json) → Type 0
IsBegun before now after given = (own : List (List ℕ × Option Json)) → before ++ printed (object_of_parts (given ++ own)) ≡ now ++ parts_left after own
