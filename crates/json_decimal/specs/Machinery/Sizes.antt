-- The size of a number. No public contract speaks of this word.
use Rattle.std.specs.Prelude.{◌≡◌, ℕ, ◌*◌, ◌^◌, pos}
use Rattle.json_decimal.specs.Number.{Number}
use Rattle.json_decimal.specs.Comparing.{above}

-- the number is n, but for its sign
abbrev pub IsSize : Number → ℕ → Type 0
IsSize x n = x.coefficient * 10 ^ above (pos 0) x.exponent ≡ n * 10 ^ above x.exponent (pos 0)
