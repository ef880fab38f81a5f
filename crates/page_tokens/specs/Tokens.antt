-- What parts of paths and tokens of pages name (this project's own, after the pages of Azure Digital Twins).
use Rattle.std.specs.Prelude.{◌≡◌, ◌==◌, ℕ, List, length}
use Rattle.std.specs.List.{slice_split, AllZip}
use Rattle.percent_encoding.specs.Percent.{percent_decode}
use Rattle.twin_value.specs.Breaches.{IsTwinId}

-- The part names this id: with each `%` and two hexadecimal digits read as the byte that they stand for, it is the id of a
-- twin or a relationship.
pub record NamesId (part id : List ℕ) : Type 0 where
  pub decoded : percent_decode part ≡ id
  pub grammar : IsTwinId id

-- The parts name these ids, one each.
abbrev pub NameIds : List (List ℕ) → List (List ℕ) → Type 0
NameIds parts ids = AllZip NamesId parts ids

-- The parts of a token, which a `/` stands between.
abbrev pub token_parts : List ℕ → List (List ℕ)
token_parts token = slice_split (λ b. b == 47) token

-- The text is the token of these ids, of which there are so many.
pub record IsPageToken (token : List ℕ) (count : ℕ) (ids : List (List ℕ)) : Type 0 where
  pub number : length (token_parts token) ≡ count
  pub named : NameIds (token_parts token) ids
