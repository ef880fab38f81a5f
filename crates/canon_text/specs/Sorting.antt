-- Lists in the order of the bytes of their elements' keys.
use Rattle.std.specs.Prelude.{ℕ, List, [], ◌∷◌, Bool, if◌then◌else◌}
use Rattle.std.specs.Ordering.{is_lt, nat_cmp}
use Rattle.std.specs.Cmp.Lexicographic.{slice_cmp}

-- The first text comes before the second in the order of their bytes.
abbrev pub is_before : List ℕ → List ℕ → Bool
is_before a b = is_lt (slice_cmp nat_cmp a b)

-- An element put into a list behind those with lesser keys.
abbrev pub put_by : {A : Type 0} → (A → List ℕ) → A → List A → List A
put_by key x [] = x ∷ []
put_by key x (y ∷ ys) = if is_before (key y) (key x) then y ∷ put_by key x ys else x ∷ y ∷ ys

-- The elements in the order of their keys; those with one key keep their order.
abbrev pub sorted_by : {A : Type 0} → (A → List ℕ) → List A → List A
sorted_by key [] = []
sorted_by key (x ∷ xs) = put_by key x (sorted_by key xs)
