-- A number that some bytes are a literal of is one that a decimal can be, where it is in range.
use Rattle.std.proofs.Common.{◌≡◌, ◌≢◌, ℕ, suc, ◌+◌, ◌-◌, ◌*◌, ◌%◌, ◌^◌, ◌<◌, ◌≤◌, inl, inr, List, [], ◌∷◌, ◌++◌, length, pos, neg_ℤ, ◌≤ℤ◌, refl, sym, ap, subst, ◌∙◌, mul-le-mul, mul_assoc, length-append, arith}
use Rattle.std.proofs.Math.Nat.{pow-succ'}
use Rattle.std.proofs.lemmas.Bool.{cases_eq}
use Rattle.std.proofs.lemmas.Int.{ints}
use Rattle.json_decimal.specs.Number.{Number, zero_number}
use Rattle.json_decimal.specs.Literal.{AreDigits, IsLiteralOf, digits_value, value_after}
use Rattle.json_decimal.specs.Printing.{text_of}
use Rattle.json_decimal.proofs.Powers.{ten_grows, ten_positive}
use Rattle.json_decimal.proofs.ReadsBack.{IsDecimal, reads_back}
use Rattle.json_decimal.proofs.Written.{AreDigits-append}

value_below : (n : ℕ) (ds : List ℕ) → AreDigits ds → value_after n ds < (n + 1) * 10 ^ length ds
value_below n [] p = omega arith
value_below n (b ∷ ds) p =
    let later = value_below (n * 10 + (b - 48)) ds p.1 in
    let high = p.0.high in
    let more : (n * 10 + (b - 48) + 1) * 10 ^ length ds ≤ (n + 1) * 10 * 10 ^ length ds = mul-le-mul (omega arith) (omega arith) in
    let power : (n + 1) * 10 * 10 ^ length ds ≡ (n + 1) * 10 ^ suc (length ds) =
    mul_assoc (n + 1) 10 (10 ^ length ds) ∙ ap (λ (t : ℕ). (n + 1) * t) (sym (pow-succ' 10 (length ds))) in
    omega arith

literal_below : (bytes : List ℕ) (n : Number) (l : IsLiteralOf bytes n) → digits_value l.literal < 10 ^ 38
literal_below bytes n l =
    let ds = l.literal.integer ++ l.literal.fraction in
    let below = value_below 0 ds (AreDigits-append l.literal.integer l.literal.fraction l.is.integer.digits l.is.fraction) in
    let few = l.is.few in
    let count = length-append l.literal.integer l.literal.fraction in
    let most : 10 ^ length ds ≤ 10 ^ 38 = ten_grows (length ds) 38 (omega arith) in
    omega arith

zero_decimal : IsDecimal zero_number
zero_decimal = record { bounded = omega arith; trimmed = λ e. e; low = omega (arith, ints); high = omega (arith, ints); zero = λ e. (refl, refl) }

pub literal_decimal : (bytes : List ℕ) (n : Number) → IsLiteralOf bytes n → neg_ℤ (pos 900) ≤ℤ n.exponent → n.exponent ≤ℤ pos 900 → IsDecimal n
literal_decimal bytes n l low high = elim (cases_eq (digits_value l.literal) 0) [
  | inl none ↦ subst IsDecimal (sym (l.stands.zero none)) zero_decimal
  | inr some ↦ kept some
]
  where
    kept : digits_value l.literal ≢ 0 → IsDecimal n
    kept some =
        let keeps = l.stands.other some in
        let below = literal_below bytes n l in
        let digits = keeps.digits in
        let least : n.coefficient * 1 ≤ n.coefficient * 10 ^ keeps.zeros = mul-le-mul (omega arith) (ten_positive keeps.zeros) in
        record {
          bounded = omega arith;
          trimmed = λ last. absurd (keeps.trimmed last);
          low = low;
          high = high;
          zero = λ none. absurd (keeps.trimmed (ap (λ (c : ℕ). c % 10) none));
        }

-- its own text is a literal of it too
pub literal_again : (bytes : List ℕ) (n : Number) → IsLiteralOf bytes n → neg_ℤ (pos 900) ≤ℤ n.exponent → n.exponent ≤ℤ pos 900 → IsLiteralOf (text_of n) n
literal_again bytes n l low high = reads_back n (literal_decimal bytes n l low high)
