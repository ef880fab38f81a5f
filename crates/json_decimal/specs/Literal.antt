-- The number literals of JSON (RFC 8259, section 6), bounded, and the number that each stands for.
use Rattle.std.specs.Prelude.{◌≡◌, ℕ, ◌+◌, ◌-◌, ◌*◌, ◌≤◌, Bool, true, false, ℤ, pos, neg_ℤ, ◌-ℤ◌, List, [], ◌∷◌, ◌++◌, length, slice_index, Option, Some, None, IfSome, ◌⊎◌}
use Rattle.json_decimal.specs.Number.{Number, IsNormalForm}

pub data Sign : Type 0 where
  no_sign : Sign
  plus : Sign
  minus : Sign

-- e or E, a sign if any, and digits
pub record Exponent : Type 0 where
  pub mark : ℕ
  pub sign : Sign
  pub digits : List ℕ

-- The parts of a literal. The fraction is empty where the literal has no point.
pub record Literal : Type 0 where
  pub negative : Bool
  pub integer : List ℕ
  pub fraction : List ℕ
  pub exponent : Option Exponent

-- `0` to `9`
pub record IsDigit (b : ℕ) : Type 0 where
  pub low : 48 ≤ b
  pub high : b ≤ 57

abbrev pub AreDigits : List ℕ → Type 0
AreDigits [] = Unit {0}
AreDigits (b ∷ bs) = IsDigit b × AreDigits bs

-- one digit or more, where a first `0` stands alone
pub record IsInteger (ds : List ℕ) : Type 0 where
  pub some : 1 ≤ length ds
  pub leading : slice_index ds 0 ≡ 48 → length ds ≡ 1
  pub digits : AreDigits ds

-- one to three digits, of which the first may be `0`
pub record IsPower (ds : List ℕ) : Type 0 where
  pub some : 1 ≤ length ds
  pub few : length ds ≤ 3
  pub digits : AreDigits ds

-- `e` or `E`, a sign if any, and the power of ten
pub record IsExponent (x : Exponent) : Type 0 where
  pub mark : (x.mark ≡ 101) ⊎ (x.mark ≡ 69)
  pub digits : IsPower x.digits

-- a JSON number with at most 38 digits before the exponent mark
pub record IsLiteral (l : Literal) : Type 0 where
  pub integer : IsInteger l.integer
  pub fraction : AreDigits l.fraction
  pub exponent : IfSome l.exponent IsExponent
  pub few : length l.integer + length l.fraction ≤ 38

abbrev pub sign_bytes : Sign → List ℕ
sign_bytes no_sign = []
sign_bytes plus = 43 ∷ []
sign_bytes minus = 45 ∷ []

abbrev pub minus_bytes : Bool → List ℕ
minus_bytes false = []
minus_bytes true = 45 ∷ []

-- the fraction behind its point
abbrev pub fraction_bytes : List ℕ → List ℕ
fraction_bytes [] = []
fraction_bytes (b ∷ bs) = 46 ∷ b ∷ bs

abbrev pub exponent_bytes : Option Exponent → List ℕ
exponent_bytes None = []
exponent_bytes (Some x) = x.mark ∷ (sign_bytes x.sign ++ x.digits)

-- the bytes of a literal
abbrev pub spelling : Literal → List ℕ
spelling l = minus_bytes l.negative ++ (l.integer ++ (fraction_bytes l.fraction ++ exponent_bytes l.exponent))

-- the number that digits write when they follow those of n
abbrev pub value_after : ℕ → List ℕ → ℕ
value_after n [] = n
value_after n (b ∷ bs) = value_after (n * 10 + (b - 48)) bs

abbrev pub signed_exponent : Sign → ℕ → ℤ
signed_exponent no_sign n = pos n
signed_exponent plus n = pos n
signed_exponent minus n = neg_ℤ (pos n)

abbrev pub exponent_value : Option Exponent → ℤ
exponent_value None = pos 0
exponent_value (Some x) = signed_exponent x.sign (value_after 0 x.digits)

-- all digits before the exponent mark, as one number
abbrev pub digits_value : Literal → ℕ
digits_value l = value_after 0 (l.integer ++ l.fraction)

-- the power of ten that the last of these digits counts
abbrev pub scale : Literal → ℤ
scale l = exponent_value l.exponent -ℤ pos (length l.fraction)

-- the literal stands for the number
abbrev pub StandsFor : Literal → Number → Type 0
StandsFor l n = IsNormalForm l.negative (digits_value l) (scale l) n

-- the bytes are a literal of the number
pub record IsLiteralOf (bytes : List ℕ) (n : Number) : Type 0 where
  pub literal : Literal
  pub is : IsLiteral literal
  pub spelled : bytes ≡ spelling literal
  pub stands : StandsFor literal n
