-- Whole numbers of JSON.
use Rattle.std.specs.Prelude.{ℕ, zero, suc, ◌/◌, ◌%◌, ◌==◌, if◌then◌else◌, Bool, true, false, ℤ, pos, negsuc}
use Rattle.json_decimal.specs.Number.{Number, zero_number}

-- A number without the zeros at its end, of which at most so many are taken off, beside how many these and those
-- before were.
abbrev pub without_zeros : ℕ → ℕ → ℕ → ℕ × ℕ
without_zeros zero n zeros = (n, zeros)
without_zeros (suc most) n zeros = if n % 10 == 0 then without_zeros most (n / 10) (suc zeros) else (n, zeros)

-- The normal form of a number of this size, below zero where the sign is true. The size has no more zeros at its end
-- than its own value.
abbrev pub sized : Bool → ℕ → Number
sized negative zero = zero_number
sized negative (suc n) = let w = without_zeros (suc n) (suc n) 0 in record { negative = negative; coefficient = w.0; exponent = pos w.1 }

abbrev pub whole : ℤ → Number
whole (pos n) = sized false n
whole (negsuc n) = sized true (suc n)
