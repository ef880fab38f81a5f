-- What the readers of the parts of a literal answer. No public contract speaks of these words.
use Rattle.std.specs.Prelude.{◌≡◌, ℕ, ◌+◌, ◌≤◌, Bool, ℤ, pos, ◌-ℤ◌, List, ◌++◌, length, Option, IfSome}
use Rattle.json_decimal.specs.Literal.{Literal, Sign, Exponent, IsLiteral, IsExponent, IsPower, AreDigits, spelling, fraction_bytes, exponent_bytes, exponent_value, sign_bytes, signed_exponent, value_after, digits_value, scale}

-- the bytes are a sign, if any, and a power of ten
pub record IsSignedPower (bytes : List ℕ) (power : ℤ) : Type 0 where
  pub sign : Sign
  pub digits : List ℕ
  pub is : IsPower digits
  pub spelled : bytes ≡ sign_bytes sign ++ digits
  pub value : power ≡ signed_exponent sign (value_after 0 digits)

-- the bytes are an exponent, or nothing
pub record IsExponentOf (bytes : List ℕ) (power : ℤ) : Type 0 where
  pub exponent : Option Exponent
  pub is : IfSome exponent IsExponent
  pub spelled : bytes ≡ exponent_bytes exponent
  pub value : power ≡ exponent_value exponent

-- The bytes are the rest of a literal behind count digits that make n: a fraction, if any, and an
-- exponent, if any. All digits make value, and the last of them counts this power of ten.
pub record IsTail (bytes : List ℕ) (count n value : ℕ) (power : ℤ) : Type 0 where
  pub fraction : List ℕ
  pub exponent : Option Exponent
  pub digits : AreDigits fraction
  pub is : IfSome exponent IsExponent
  pub few : count + length fraction ≤ 38
  pub spelled : bytes ≡ fraction_bytes fraction ++ exponent_bytes exponent
  pub value_is : value ≡ value_after n fraction
  pub power_is : power ≡ exponent_value exponent -ℤ pos (length fraction)

-- The bytes are a literal with this sign and these digits before the exponent mark, the last of which
-- counts this power of ten.
pub record IsScanned (bytes : List ℕ) (negative : Bool) (value : ℕ) (power : ℤ) : Type 0 where
  pub literal : Literal
  pub is : IsLiteral literal
  pub spelled : bytes ≡ spelling literal
  pub sign_is : negative ≡ literal.negative
  pub value_is : value ≡ digits_value literal
  pub power_is : power ≡ scale literal
