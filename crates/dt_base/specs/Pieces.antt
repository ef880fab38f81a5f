-- The lengths of the reads of a source in memory.
use Rattle.std.specs.Prelude.{ℕ, ◌-◌, ◌^◌, List, max, slice_get, unwrap_or}

-- How many bytes the read at a place in their order may move: past the end of the list as many as there are,
-- and one at least.
abbrev pub piece_bound : List ℕ → ℕ → ℕ
piece_bound pieces at = max (unwrap_or (slice_get pieces at) (2 ^ 64 - 1)) 1
