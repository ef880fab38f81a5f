-- Bytes of the tokens of pointers. No public contract speaks of these words.
use Rattle.std.specs.Prelude.{◌≡◌, ◌≢◌, ◌<◌, ℕ, List, [], ◌∷◌, length, get_or}
use Rattle.json_tree.specs.Pointers.{token_byte}

-- A byte that stands for itself in a token.
abbrev pub IsBare : ℕ → Type 0
IsBare b = token_byte b ≡ b ∷ []

abbrev pub IsNoSlash : ℕ → Type 0
IsNoSlash b = b ≢ 47

-- No digits with a sign in front or with a leading zero.
abbrev pub HasIndexForm : List ℕ → Type 0
HasIndexForm bytes = (0 < length bytes) × (get_or bytes 0 0 ≢ 43) × (get_or bytes 0 0 ≡ 48 → length bytes ≡ 1)
