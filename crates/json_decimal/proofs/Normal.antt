-- Each literal stands for a number: a value and a power of ten have a normal form.
use Rattle.std.proofs.Common.{◌≡◌, ◌≢◌, ℕ, zero, suc, ◌+◌, ◌*◌, ◌/◌, ◌%◌, ◌^◌, ◌<◌, ◌≤◌, inl, inr, Bool, ℤ, pos, ◌+ℤ◌, refl, ◌∙◌, arith}
use Rattle.std.proofs.lemmas.Bool.{cases_lt}
use Rattle.json_decimal.specs.Number.{Number, IsNormalForm, zero_number}
use Rattle.json_decimal.specs.Literal.{Literal, IsLiteral, IsLiteralOf, spelling, digits_value, scale}
use Rattle.json_decimal.proofs.Powers.{ten_moved}

-- the number without its trailing zeros, and how many these are
trimmed : (bound left tens value : ℕ) → left ≤ bound → 0 < left → left * 10 ^ tens ≡ value
    → (coefficient zeros : ℕ) × (coefficient % 10 ≢ 0) × (coefficient * 10 ^ zeros ≡ value)
trimmed zero left tens value within some e = absurd (omega (arith, within, some))
trimmed (suc bound) left tens value within some e = elim (cases_lt 0 (left % 10)) [
  | inl digit ↦ (left, tens, (λ none. omega (arith, digit, none)), e)
  | inr none ↦ (let tenth : left % 10 ≡ 0 = omega (arith, none) in
      trimmed bound (left / 10) (tens + 1) value (omega (arith, within, some, tenth)) (omega (arith, some, tenth)) (ten_moved left tens tenth ∙ e))
]

normal_form : (negative : Bool) (value : ℕ) (power : ℤ) → (n : Number) × IsNormalForm negative value power n
normal_form negative value power = elim (cases_lt 0 value) [
  | inl some ↦ (let t = trimmed value value 0 value (omega arith) some (omega arith) in (
    record { negative = negative; coefficient = t.0; exponent = power +ℤ pos t.1 },
    record {
      zero = λ none. absurd (omega (arith, some, none));
      other = λ _. record { sign = refl; trimmed = t.2; zeros = t.1; digits = t.3; exponent = refl };
    },
  ))
  | inr none ↦ (zero_number, record { zero = λ _. refl; other = λ some. absurd (some (omega (arith, none))) })
]

pub literal_number : (l : Literal) → IsLiteral l → (n : Number) × IsLiteralOf (spelling l) n
literal_number l is =
    let n = normal_form l.negative (digits_value l) (scale l) in
    (n.0, record { literal = l; is = is; spelled = refl; stands = n.1 })
