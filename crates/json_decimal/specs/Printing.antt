-- The text that a decimal prints as.
use Rattle.std.specs.Prelude.{ℕ, suc, ◌+◌, ◌-◌, ℤ, pos, negsuc, nat_le, nat_lt, if◌then◌else◌, List, ◌∷◌, ◌++◌, length, take, drop, replicate, decimal}
use Rattle.json_decimal.specs.Literal.{minus_bytes}
use Rattle.json_decimal.specs.Number.{Number}

-- the digits and then zeros, where these are at most 38, or else an exponent
abbrev pub whole_text : List ℕ → ℕ → List ℕ
whole_text ds zeros = if nat_le (length ds + zeros) 38 then ds ++ replicate zeros 48 else ds ++ 101 ∷ decimal zeros

-- the digits with a point before the last of them, as many as there are places
abbrev pub pointed_text : List ℕ → ℕ → List ℕ
pointed_text ds places = take (length ds - places) ds ++ 46 ∷ drop (length ds - places) ds

-- The digits with a point before the last of them, as many as there are places; or all of them behind
-- `0.` and zeros, for at most 37 places; or else an exponent.
abbrev pub fraction_text : List ℕ → ℕ → List ℕ
fraction_text ds places =
    if nat_lt places (length ds) then pointed_text ds places
    else if nat_le places 37 then 48 ∷ 46 ∷ (replicate (places - length ds) 48 ++ ds)
    else ds ++ 101 ∷ 45 ∷ decimal places

abbrev pub size_text : List ℕ → ℤ → List ℕ
size_text ds (pos zeros) = whole_text ds zeros
size_text ds (negsuc n) = fraction_text ds (suc n)

-- a minus where the number is negative, and its size
abbrev pub text_of : Number → List ℕ
text_of n = minus_bytes n.negative ++ size_text (decimal n.coefficient) n.exponent
