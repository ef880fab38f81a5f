-- Decimal numbers of any size, and when one is in normal form.
use Rattle.std.specs.Prelude.{◌≡◌, ◌≢◌, ℕ, ◌*◌, ◌%◌, ◌^◌, Bool, false, ℤ, pos, neg_ℤ, ◌+ℤ◌, ◌<ℤ◌, ◌⊎◌}

-- coefficient * 10 ^ exponent, or its negative
pub record Number : Type 0 where
  pub negative : Bool
  pub coefficient : ℕ
  pub exponent : ℤ

abbrev pub zero_number : Number
zero_number = record { negative = false; coefficient = 0; exponent = pos 0 }

-- n is value * 10 ^ scale with a coefficient that has no trailing zero
pub record KeepsValue (negative : Bool) (value : ℕ) (scale : ℤ) (n : Number) : Type 0 where
  pub sign : n.negative ≡ negative
  pub trimmed : n.coefficient % 10 ≢ 0
  pub zeros : ℕ
  pub digits : n.coefficient * 10 ^ zeros ≡ value
  pub exponent : n.exponent ≡ scale +ℤ pos zeros

-- n is the normal form of value * 10 ^ scale, negative or not; zero is positive with exponent 0
pub record IsNormalForm (negative : Bool) (value : ℕ) (scale : ℤ) (n : Number) : Type 0 where
  pub zero : value ≡ 0 → n ≡ zero_number
  pub other : value ≢ 0 → KeepsValue negative value scale n

-- the exponent is outside -900 to 900
abbrev pub IsOutOfRange : Number → Type 0
IsOutOfRange n = (n.exponent <ℤ neg_ℤ (pos 900)) ⊎ (pos 900 <ℤ n.exponent)
