-- The order of numbers, and which whole number one is.
use Rattle.std.specs.Prelude.{◌≡◌, ℕ, ◌*◌, ◌^◌, Bool, true, false, ℤ, pos, negsuc, neg_ℤ, ◌-ℤ◌, ◌*ℤ◌}
use Rattle.std.specs.Int.{int_min}
use Rattle.std.specs.Ordering.{int_cmp}
use Rattle.std.specs.declared.cmp.Ordering.{Ordering}
use Rattle.json_decimal.specs.Number.{Number}

-- a whole number as it is, and 0 for one below zero
abbrev pub distance : ℤ → ℕ
distance (pos n) = n
distance (negsuc n) = 0

-- how far x is above low, and 0 where it is below
abbrev pub above : ℤ → ℤ → ℕ
above low x = distance (x -ℤ low)

-- the number of this size, below zero where the sign is true
abbrev pub signed : Bool → ℕ → ℤ
signed false n = pos n
signed true n = neg_ℤ (pos n)

-- the number over 10 ^ low, which is whole where its exponent is at least low
abbrev pub scaled : ℤ → Number → ℤ
scaled low n = signed n.negative (n.coefficient * 10 ^ above low n.exponent)

-- the order of the whole numbers that both give when they are scaled to the lesser exponent
abbrev pub order_of : Number → Number → Ordering
order_of m n = let low = int_min m.exponent n.exponent in int_cmp (scaled low m) (scaled low n)

-- the number is the whole number z, where both are scaled to the lesser of its exponent and 0
abbrev pub IsWhole : Number → ℤ → Type 0
IsWhole n z = let low = int_min n.exponent (pos 0) in scaled low n ≡ z *ℤ pos (10 ^ above low (pos 0))
