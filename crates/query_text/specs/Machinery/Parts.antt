-- Lists that were printed in part.
use Rattle.std.specs.Prelude.{◌≡◌, ℕ, zero, suc, ◌⊎◌, List, [], ◌∷◌}
use Rattle.query_text.specs.Printed.{each_behind, separated, escaped_query_byte}

-- what stands before the text at a position
abbrev pub mark_before : List ℕ → ℕ → List ℕ
mark_before mark zero = []
mark_before mark (suc n) = mark

-- what is still to be printed at a position
abbrev pub left : {A : Type 0} → List ℕ → (A → List ℕ) → ℕ → List A → List ℕ
left mark text zero xs = separated mark text xs
left mark text (suc n) xs = each_behind mark text xs

-- a byte that is printed as it is
abbrev pub IsPlainInQuery : ℕ → Type 0
IsPlainInQuery b = escaped_query_byte b ≡ b ∷ []

-- a byte that is printed behind a backslash
abbrev pub IsEscapedInQuery : ℕ → Type 0
IsEscapedInQuery b = (b ≡ 92) ⊎ ((b ≡ 39) ⊎ ((b ≡ 10) ⊎ ((b ≡ 13) ⊎ (b ≡ 9))))
