-- Pages and their tokens (this project's own, after the pages of Azure Digital Twins): a page has at most 100 entries, and a
-- token exactly where a further one follows.
use Rattle.std.specs.Prelude.{ℕ, ◌-◌, ◌+◌, ◌/◌, ◌%◌, List, [], ◌∷◌, ◌++◌, map, take, drop, length, Option, Some, None, if◌then◌else◌, codes, slice_get, nat_lt}
use Rattle.std.specs.List.{flat_map}
use Rattle.std.specs.Char.{is_ascii_alphanumeric}
use Rattle.std.specs.Option.{option_map}
use Rattle.json_tree.specs.Values.{Json, text, array, object, elements_of, Members, no_members, member}
use Rattle.json_decimal.specs.Number.{Number}

-- A hexadecimal digit in capitals.
abbrev pub capital_hex_digit : ℕ → ℕ
capital_hex_digit n = if nat_lt n 10 then 48 + n else 55 + n

-- A byte of an id in a token: letters and digits as they are, all others percent-encoded.
abbrev pub page_token_byte : ℕ → List ℕ
page_token_byte b = if is_ascii_alphanumeric b then b ∷ [] else 37 ∷ capital_hex_digit (b / 16) ∷ capital_hex_digit (b % 16) ∷ []

abbrev pub token_part : List ℕ → List ℕ
token_part id = flat_map page_token_byte id

-- The token of a key: its ids, joined by `/`.
abbrev pub token_of : List (List ℕ) → List ℕ
token_of [] = []
token_of (id ∷ []) = token_part id
token_of (id ∷ ids) = token_part id ++ 47 ∷ token_of ids

-- The first 100 entries, each a key and what is given of it.
abbrev pub on_page : List (List (List ℕ) × Json) → List (List (List ℕ) × Json)
on_page entries = take 100 entries

abbrev pub last_key : List (List (List ℕ) × Json) → Option (List (List ℕ))
last_key entries = option_map (λ e. e.0) (slice_get entries (length entries - 1))

-- The token of the page's last key, where a further entry follows.
abbrev pub token : List (List (List ℕ) × Json) → Option (List ℕ)
token entries = following (drop 100 entries)
  where
    following : List (List (List ℕ) × Json) → Option (List ℕ)
    following [] = None
    following (e ∷ es) = option_map token_of (last_key (on_page entries))

abbrev pub page_members : List (List (List ℕ) × Json) → Members Number
page_members entries = member (codes "value") (array (elements_of (map (λ e. e.1) (on_page entries)))) no_members

-- The page of entries in the order of their keys, all of which are past the token that was given.
abbrev pub page_value : List (List (List ℕ) × Json) → Json
page_value entries = page (token entries)
  where
    page : Option (List ℕ) → Json
    page None = object (page_members entries)
    page (Some t) = object (member (codes "continuationToken") (text t) (page_members entries))
