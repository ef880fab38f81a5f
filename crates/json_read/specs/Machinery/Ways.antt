-- Ways to the first place in a value, in preorder, of which something holds. No public contract speaks of
-- these words.
use Rattle.std.specs.Prelude.{ℕ, suc, List, [], ◌∷◌, ◌++◌, reverse, Bool, true, false, ◌||◌, ◌==◌, nat_lt, bytes_eq, if◌then◌else◌, Option, Some, None}
use Rattle.json_tree.specs.Values.{Value, Raw}
use Rattle.json_tree.specs.Places.{IsBefore}
use Rattle.json_read.specs.Faults.{IsDuplicateAt, IsRangeAt}

-- The first place of which this holds.
abbrev pub IsFirstAt : (List ℕ → Type 0) → List ℕ → Type 0
IsFirstAt At place = At place × ((before : List ℕ) → IsBefore before place → At before → ⊥)

-- The way up from the first place of which this holds, so its steps stand in reverse; None where it holds of none.
abbrev pub IsFirstUp : (List ℕ → Type 0) → Option (List ℕ) → Type 0
IsFirstUp At None = (place : List ℕ) → At place → ⊥
IsFirstUp At (Some up) = IsFirstAt At (reverse up)

abbrev pub IsFirstRange : Raw → Option (List ℕ) → Type 0
IsFirstRange raw up = IsFirstUp (IsRangeAt raw) up

abbrev pub IsFirstDuplicate : {N : Type 0} → Value N → Option (List ℕ) → Type 0
IsFirstDuplicate v up = IsFirstUp (IsDuplicateAt v) up

-- The way up from a part with one more step, unless there was a way before.
abbrev pub first_way : Option (List ℕ) → Option (List ℕ) → ℕ → Option (List ℕ)
first_way (Some before) inner position = Some before
first_way None (Some up) position = Some (up ++ position ∷ [])
first_way None None position = None

-- Whether a place is before another.
abbrev pub place_is_before : List ℕ → List ℕ → Bool
place_is_before place [] = false
place_is_before [] (j ∷ other) = true
place_is_before (i ∷ place) (j ∷ other) = if i == j then place_is_before place other else nat_lt i j

-- Keys that stand twice, found from left to right.
abbrev pub has_key : List (List ℕ) → List ℕ → Bool
has_key [] key = false
has_key (k ∷ ks) key = bytes_eq k key || has_key ks key

-- The position of the first key that stands before it or among those seen, or else how many there are.
abbrev pub repeat_at : List (List ℕ) → List (List ℕ) → ℕ
repeat_at seen [] = 0
repeat_at seen (k ∷ ks) = if has_key seen k then 0 else suc (repeat_at (seen ++ k ∷ []) ks)
