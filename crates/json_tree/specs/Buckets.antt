-- Which bucket a text is put in, and which buckets are used.
use Rattle.std.specs.Prelude.{◌≡◌, ◌↔◌, ◌⊎◌, ℕ, ◌+◌, ◌*◌, ◌-◌, ◌%◌, List, length, slice_index, slice_index_or, false, IsTrue}
use Rattle.json_tree.specs.declared.buckets.Buckets.{Buckets}

-- by the length of the text, its first byte and its last
abbrev pub bucket_of : List ℕ → ℕ
bucket_of t = (length t % 64 + 3 * slice_index t 0 + 17 * slice_index t (length t - 1)) % 64

-- the bucket of the text is used
abbrev pub IsUsed : Buckets → List ℕ → Type 0
IsUsed buckets t = IsTrue (slice_index_or buckets.used (bucket_of t) false)

-- the text was put: its bucket is used now, and each other one where it was before
abbrev pub HasPut : Buckets → Buckets → List ℕ → Type 0
HasPut old new text = (t : List ℕ) → IsUsed new t ↔ (IsUsed old t ⊎ (bucket_of t ≡ bucket_of text))
