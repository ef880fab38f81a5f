-- How tokens are spelled, and which one is the longest at a place.
use Rattle.std.specs.Prelude.{◌≡◌, ◌≢◌, ℕ, ◌<◌, ◌≤◌, ◌^◌, ◌⊎◌, List, [], ◌∷◌, ◌++◌, length, Bool, ◌||◌, ◌&&◌, ◌==◌, nat_le, Option, Some, None, IsTrue, if◌then◌else◌}
use Rattle.std.specs.List.{AllByRecursion}
use Rattle.std.specs.Char.{is_ascii_alphabetic, is_ascii_alphanumeric}
use Rattle.dt_base.specs.names.Grammar.{Identifier, OwnDtmiText}
use Rattle.json_decimal.specs.Decimals.{number_of}
use Rattle.json_decimal.specs.Literal.{IsLiteralOf}
use Rattle.query_terms.specs.declared.operand.Compare.TheVariants as compares
use Rattle.query_terms.specs.declared.tokens.token.Mark.{Mark}
use Rattle.query_terms.specs.declared.tokens.token.Mark.TheVariants as marks
use Rattle.query_terms.specs.declared.tokens.token.Token.{Token}
use Rattle.query_terms.specs.declared.tokens.token.Token.TheVariants as tokens
use Rattle.query_terms.specs.tokens.Words.{word_of}

-- A letter, `_` or `$`; behind it digits too.
abbrev pub is_name_start : ℕ → Bool
is_name_start b = (is_ascii_alphabetic b || (b == 95)) || (b == 36)

abbrev pub is_query_name_byte : ℕ → Bool
is_query_name_byte b = (is_ascii_alphanumeric b || (b == 95)) || (b == 36)

-- A digit or a minus, with which literals begin.
abbrev pub is_number_start : ℕ → Bool
is_number_start b = (b == 45) || (nat_le 48 b && nat_le b 57)

-- A space, a tab, a line feed or a carriage return.
abbrev pub is_space : ℕ → Bool
is_space b = (((b == 32) || (b == 9)) || (b == 10)) || (b == 13)

abbrev pub IsQueryName : List ℕ → Type 0
IsQueryName [] = ⊥
IsQueryName (b ∷ bs) = IsTrue (is_name_start b) × AllByRecursion (λ c. IsTrue (is_query_name_byte c)) bs

abbrev pub mark_bytes : Mark → List ℕ
mark_bytes marks.Star = 42 ∷ []
mark_bytes marks.Open = 40 ∷ []
mark_bytes marks.Close = 41 ∷ []
mark_bytes marks.Comma = 44 ∷ []
mark_bytes marks.Dot = 46 ∷ []
mark_bytes marks.OpenList = 91 ∷ []
mark_bytes marks.CloseList = 93 ∷ []
mark_bytes (marks.Compare compares.Same) = 61 ∷ []
mark_bytes (marks.Compare compares.Other) = 33 ∷ 61 ∷ []
mark_bytes (marks.Compare compares.Less) = 60 ∷ []
mark_bytes (marks.Compare compares.Greater) = 62 ∷ []
mark_bytes (marks.Compare compares.LessOrSame) = 60 ∷ 61 ∷ []
mark_bytes (marks.Compare compares.GreaterOrSame) = 62 ∷ 61 ∷ []

-- What a character behind a backslash stands for: `\`, `'` and `"` for themselves, `n`, `r` and `t` for a line feed, a carriage
-- return and a tab. No other stands there.
abbrev pub escape : ℕ → Option ℕ
escape character =
    if character == 92 then Some 92 else
    if character == 39 then Some 39 else
    if character == 34 then Some 34 else
    if character == 110 then Some 10 else
    if character == 114 then Some 13 else
    if character == 116 then Some 9 else
    None

-- This byte of a text's content stands at the front of `from`, by itself or behind a backslash, and `to` follows.
abbrev pub IsQueryCharacter : ℕ → List ℕ → List ℕ → Type 0
IsQueryCharacter byte from to =
    ((from ≡ byte ∷ to) × (32 ≤ byte) × (byte ≢ 39) × (byte ≢ 92))
    ⊎ ((character : ℕ) × (from ≡ 92 ∷ character ∷ to) × (escape character ≡ Some byte))

-- The content and then the quote that ends it.
abbrev pub AreCharacters : List ℕ → List ℕ → List ℕ → Type 0
AreCharacters [] from to = from ≡ 39 ∷ to
AreCharacters (byte ∷ content) from to = (mid : List ℕ) × IsQueryCharacter byte from mid × AreCharacters content mid to

-- The identifier of a model that is not reserved, where the text is one, and none where it is none.
abbrev pub IsModel : List ℕ → Option Identifier → Type 0
IsModel content (Some id) = OwnDtmiText content id
IsModel content None = (id : Identifier) → OwnDtmiText content id → ⊥

-- The bytes are a spelling of the token. A number is the decimal of a literal, in two halves of which the lower has 64 bits.
abbrev pub IsSpelling : Token → List ℕ → Type 0
IsSpelling (tokens.Name word name) bytes = (bytes ≡ name) × IsQueryName name × (word ≡ word_of name)
IsSpelling (tokens.Number d) bytes = IsLiteralOf bytes (number_of d) × (d.low < 2 ^ 64)
IsSpelling (tokens.Text content model) bytes = (mid : List ℕ) × (bytes ≡ 39 ∷ mid) × AreCharacters content mid [] × IsModel content model
IsSpelling (tokens.Mark m) bytes = bytes ≡ mark_bytes m

-- The token stands at the front of `from` and `to` follows, and no longer one does.
pub record IsLongest (from : List ℕ) (t : Token) (to : List ℕ) : Type 0 where
  pub bytes : List ℕ
  pub parts : from ≡ bytes ++ to
  pub spelled : IsSpelling t bytes
  pub longest : (u : Token) (more rest : List ℕ) → IsSpelling u more → from ≡ more ++ rest → length more ≤ length bytes

-- No token stands at the front.
abbrev pub BeginsNone : List ℕ → Type 0
BeginsNone from = (t : Token) (bytes rest : List ℕ) → IsSpelling t bytes → from ≡ bytes ++ rest → ⊥

-- White space and then what follows.
abbrev pub SkipsSpaces : List ℕ → List ℕ → Type 0
SkipsSpaces from to = (spaces : List ℕ) × AllByRecursion (λ b. IsTrue (is_space b)) spaces × (from ≡ spaces ++ to)
