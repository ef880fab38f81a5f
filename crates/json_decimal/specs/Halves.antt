-- A number in two halves of 64 bits.
use Rattle.std.specs.Prelude.{ℕ, ◌+◌, ◌*◌, ◌^◌}

-- the number with these upper and lower halves
abbrev pub joined_halves : ℕ → ℕ → ℕ
joined_halves high low = high * 2 ^ 64 + low
