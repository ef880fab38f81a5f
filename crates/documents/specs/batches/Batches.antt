-- The text of a JSON array, cut into batches of elements. A batch lies between a position behind the array's opening bracket or
-- behind a comma between two of its elements, and a later such comma or the end of the text.
use Rattle.std.specs.Prelude.{ℕ, ◌==◌, if◌then◌else◌, List, [], ◌∷◌, ◌++◌, length, drop}
use Rattle.std.specs.List.{slice_range}

-- What stands from a position on, behind an opening bracket: an array of the elements from there on.
abbrev pub rest_text : List ℕ → ℕ → List ℕ
rest_text bytes at = 91 ∷ drop at bytes

-- What stands between two positions, in brackets: an array of the elements of that batch. The end of the text has its own bracket.
abbrev pub batch_text : List ℕ → ℕ → ℕ → List ℕ
batch_text bytes at end = if end == length bytes then rest_text bytes at else 91 ∷ (slice_range bytes at end ++ 93 ∷ [])
