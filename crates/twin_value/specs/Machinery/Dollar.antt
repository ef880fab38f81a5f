-- The sign that begins the words that no content is called by.
use Rattle.std.specs.Prelude.{ℕ, List, [], ◌∷◌, Bool, false, ◌==◌}

-- The key begins with `$`.
abbrev pub begins_with_dollar : List ℕ → Bool
begins_with_dollar [] = false
begins_with_dollar (b ∷ key) = b == 36
