-- Bytes as the reader of tokens takes them.
use Rattle.std.specs.Prelude.{◌≡◌, ℕ, ◌<◌, ◌≤◌, length, take, slice_index, List, [], ◌∷◌, ◌++◌, Bool, true, false, not, ◌||◌, ◌&&◌, ◌==◌, nat_le, Option, Some, None, if◌then◌else◌}
use Rattle.json_decimal.specs.declared.decimal.Decimal.{Decimal}
use Rattle.json_decimal.specs.Decimals.{number_of}
use Rattle.json_decimal.specs.Literal.{IsLiteralOf}
use Rattle.query_terms.specs.declared.operand.Compare.{Compare}
use Rattle.query_terms.specs.declared.operand.Compare.TheVariants as compares
use Rattle.query_terms.specs.declared.tokens.token.Mark.{Mark}
use Rattle.query_terms.specs.declared.tokens.token.Mark.TheVariants as marks
use Rattle.query_terms.specs.tokens.Spellings.{is_number_start, escape}

-- a byte that stands in literals
abbrev pub is_number_byte : ℕ → Bool
is_number_byte b = (((is_number_start b || (b == 46)) || (b == 43)) || (b == 101)) || (b == 69)

-- a byte that stands for itself in a text
abbrev pub is_plain : ℕ → Bool
is_plain b = (nat_le 32 b && not (b == 39)) && not (b == 92)

-- ---- numbers
-- no more bytes in front than so many are a literal within its range
abbrev pub NoneLonger : List ℕ → ℕ → Type 0
NoneLonger bytes end = (k : ℕ) → end < k → k ≤ length bytes → (d : Decimal) → IsLiteralOf (take k bytes) (number_of d) → ⊥

pub record IsBound (bytes : List ℕ) (end : ℕ) : Type 0 where
  pub within : end ≤ length bytes
  pub all : (k : ℕ) → k < end → is_number_byte (slice_index bytes k) ≡ true
  pub none : NoneLonger bytes end

-- ---- marks
abbrev pub pair_of : Compare → Compare → ℕ → Mark
pair_of first other second = if second == 61 then marks.Compare other else marks.Compare first

abbrev pub single_mark : ℕ → Option Mark
single_mark b =
    if b == 42 then Some marks.Star else
    if b == 40 then Some marks.Open else
    if b == 41 then Some marks.Close else
    if b == 44 then Some marks.Comma else
    if b == 46 then Some marks.Dot else
    if b == 91 then Some marks.OpenList else
    if b == 93 then Some marks.CloseList else
    if b == 61 then Some (marks.Compare compares.Same) else
    None

-- the longest mark that begins with these two bytes
abbrev pub mark_at : ℕ → ℕ → Option Mark
mark_at b second =
    if b == 60 then Some (pair_of compares.Less compares.LessOrSame second) else
    if b == 62 then Some (pair_of compares.Greater compares.GreaterOrSame second) else
    if b == 33 then (if second == 61 then Some (marks.Compare compares.Other) else None) else
    single_mark b

-- ---- texts
-- the same content with these bytes before it
abbrev pub prepend : List ℕ → Option (List ℕ × List ℕ) → Option (List ℕ × List ℕ)
prepend xs None = None
prepend xs (Some p) = Some (xs ++ p.0, p.1)

abbrev pub with_escape : Option ℕ → Option (List ℕ × List ℕ) → Option (List ℕ × List ℕ)
with_escape None p = None
with_escape (Some b) p = prepend (b ∷ []) p

-- the content of a text up to its closing quote, and what follows that; from behind a backslash, if so
unfoldable pub content_in : Bool → List ℕ → Option (List ℕ × List ℕ)
content_in escaped [] = None
content_in true (c ∷ cs) = with_escape (escape c) (content_in false cs)
content_in false (b ∷ bs) =
    if b == 39 then Some ([], bs) else
    if b == 92 then content_in true bs else
    if nat_le 32 b then prepend (b ∷ []) (content_in false bs) else
    None

abbrev pub quoted_content : List ℕ → Option (List ℕ × List ℕ)
quoted_content bytes = content_in false bytes
