-- What contracts say of a decimal and of the reading of one.
use Rattle.std.specs.Prelude.{◌≡◌, List, ℕ, Result, Ok, Err}
use Rattle.json_decimal.specs.declared.decimal.Decimal.{Decimal}
use Rattle.json_decimal.specs.declared.DecimalFault.{DecimalFault}
use Rattle.json_decimal.specs.declared.DecimalFault.TheVariants.{NotALiteral, Range}
use Rattle.json_decimal.specs.Halves.{joined_halves}
use Rattle.json_decimal.specs.Number.{Number, IsOutOfRange}
use Rattle.json_decimal.specs.Literal.{Literal, IsLiteral, IsLiteralOf, spelling}

-- the number that a decimal is
abbrev pub number_of : Decimal → Number
number_of d = record { negative = d.negative; coefficient = joined_halves d.high d.low; exponent = d.exponent }

-- What the answer says of the bytes: they are a literal of the decimal, or a literal of a number that is
-- out of range, or no literal.
abbrev pub ReadsDecimal : List ℕ → Result Decimal DecimalFault → Type 0
ReadsDecimal bytes (Ok d) = IsLiteralOf bytes (number_of d)
ReadsDecimal bytes (Err Range) = (n : Number) × IsLiteralOf bytes n × IsOutOfRange n
ReadsDecimal bytes (Err NotALiteral) = (l : Literal) → IsLiteral l → bytes ≡ spelling l → ⊥

-- What the answer is where the bytes are a literal of n.
abbrev pub IsReadingOf : Number → Result Decimal DecimalFault → Type 0
IsReadingOf n (Ok d) = number_of d ≡ n
IsReadingOf n (Err Range) = IsOutOfRange n
IsReadingOf n (Err NotALiteral) = ⊥
