-- What the parts of a path name, once they are decoded.
use Rattle.std.specs.Prelude.{◌≡◌, ℕ, ◌≤◌, List, [], length, get_or}
use Rattle.std.specs.Str.{IsUtf8}
use Rattle.percent_encoding.specs.Percent.{percent_decode}
use Rattle.dt_base.specs.names.Grammar.{Identifier, NameText, OwnDtmiText}

-- The part at a position, counted from 0.
abbrev pub part_at : ℕ → List (List ℕ) → List ℕ
part_at n parts = get_or parts n []

-- The part names this model: with each `%` and two hexadecimal digits read as the byte that they stand for, it is the text
-- in UTF-8 of a DTMI that is not reserved, of 128 bytes at most.
pub record NamesModel (part : List ℕ) (id : Identifier) : Type 0 where
  pub utf8 : IsUtf8 (percent_decode part)
  pub text : OwnDtmiText (percent_decode part) id
  pub short : length (percent_decode part) ≤ 128

-- The part names this component: decoded in the same way, it is a name.
pub record NamesComponentPart (part name : List ℕ) : Type 0 where
  pub decoded : percent_decode part ≡ name
  pub grammar : NameText name
