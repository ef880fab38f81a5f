-- A literal stands for one number.
use Rattle.std.proofs.Common.{◌≡◌, ◌≢◌, ℕ, ◌+◌, ◌*◌, ◌-◌, ◌%◌, ◌^◌, ◌<◌, Bool, inl, inr, List, [], ◌∷◌, ◌++◌, length, refl, ap, ap₂, sym, ◌∙◌, subst, arith, Option, Some, None, IfSome, ℤ, pos, neg_ℤ, ◌+ℤ◌, mul_assoc, ◌-ℤ◌, ◌/◌}
use Rattle.std.proofs.lemmas.Nat.{pow-add}
use Rattle.std.proofs.lemmas.Bool.{cases_order, cases_eq}
use Rattle.std.proofs.Math.Nat.{mul-div_cancel}
use Rattle.json_decimal.specs.Number.{Number, KeepsValue, IsNormalForm}
use Rattle.json_decimal.specs.Literal.{Literal, Exponent, Sign, no_sign, plus, minus, IsLiteral, IsDigit, AreDigits, IsPower, IsExponent, IsLiteralOf, StandsFor, spelling, exponent_bytes, exponent_value, sign_bytes, signed_exponent, value_after, digits_value, scale}
use Rattle.json_decimal.specs.Machinery.Digits.{digits_at_front, after, fraction_at, rest_at, unsigned, starts_with_minus}
use Rattle.json_decimal.specs.Machinery.Reading.{IsScanned}
use Rattle.json_decimal.proofs.Powers.{ten_positive, ten_suc}
use Rattle.json_decimal.proofs.Parts.{tail_bytes, minus-spelled, integer-spelled, tail-spelled, fraction-spelled, rest-spelled}

-- ---- normal forms
cancel_tens : (a b i : ℕ) → a * 10 ^ i ≡ b * 10 ^ i → a ≡ b
cancel_tens a b i e =
    let some : 0 < 10 ^ i = ten_positive i in
    sym (mul-div_cancel a some) ∙ ap (λ t. t / 10 ^ i) e ∙ mul-div_cancel b some

-- with fewer zeros behind it, the coefficient of the same number ends in zero
fewer_zeros : (c d i j : ℕ) → c * 10 ^ i ≡ d * 10 ^ j → i < j → c % 10 ≡ 0
fewer_zeros c d i j e h =
    let more : j ≡ (j - i) + i = omega arith in
    let step : d * 10 ^ j ≡ (d * 10 ^ (j - i)) * 10 ^ i = ap (λ t. d * 10 ^ t) more ∙ ap (λ t. d * t) (pow-add 10 (j - i) i) ∙ sym (mul_assoc d (10 ^ (j - i)) (10 ^ i)) in
    let whole : c ≡ d * 10 ^ (j - i) = cancel_tens c (d * 10 ^ (j - i)) i (e ∙ step) in
    let one : j - i ≡ (j - i - 1) + 1 = omega arith in
    let last : c ≡ (d * 10 ^ (j - i - 1)) * 10 = whole ∙ ap (λ t. d * 10 ^ t) one ∙ ap (λ t. d * t) (ten_suc (j - i - 1)) ∙ sym (mul_assoc d (10 ^ (j - i - 1)) 10) in
    omega (arith, last)

pub same_coefficient : (c d i j : ℕ) → c * 10 ^ i ≡ d * 10 ^ j → c % 10 ≢ 0 → d % 10 ≢ 0 → (c ≡ d) × (i ≡ j)
same_coefficient c d i j e p q = elim (cases_order i j) [
  | inl same ↦ (cancel_tens c d i (e ∙ ap (λ t. d * 10 ^ t) (sym same)), same)
  | inr other ↦ elim other [ inl h ↦ absurd (p (fewer_zeros c d i j e h)) | inr h ↦ absurd (q (fewer_zeros d c j i (sym e) h)) ]
]

make_number : Bool → ℕ → ℤ → Number
make_number b c e = record { negative = b; coefficient = c; exponent = e }

pub same_fields : (m n : Number) → m.negative ≡ n.negative → m.coefficient ≡ n.coefficient → m.exponent ≡ n.exponent → m ≡ n
unfolding make_number
same_fields m n b c e = ap (λ t. make_number t m.coefficient m.exponent) b ∙ ap₂ (make_number n.negative) c e

pub one_normal_form : (negative : Bool) (value : ℕ) (scale : ℤ) (m n : Number) → IsNormalForm negative value scale m → IsNormalForm negative value scale n → m ≡ n
one_normal_form negative value scale m n h k = elim (cases_eq value 0) [
  | inl e ↦ h.zero e ∙ sym (k.zero e)
  | inr some ↦ same_number (h.other some) (k.other some)
]
  where
    same_number : KeepsValue negative value scale m → KeepsValue negative value scale n → m ≡ n
    same_number p q =
        let same = same_coefficient m.coefficient n.coefficient p.zeros q.zeros (p.digits ∙ sym q.digits) p.trimmed q.trimmed in
        same_fields m n (p.sign ∙ sym q.sign) same.0 (p.exponent ∙ ap (λ t. scale +ℤ pos t) same.1 ∙ sym q.exponent)

-- ---- spellings
first_is_digit : (ds bs : List ℕ) (b : ℕ) → AreDigits ds → ds ≡ b ∷ bs → IsDigit b
first_is_digit [] bs b p e = cc
first_is_digit (d ∷ ds) bs b p e = let same : d ≡ b = cc in let P : ℕ → Type 0 = λ t. IsDigit t in subst P same p.0

not_plus : (ds bs : List ℕ) → AreDigits ds → ds ≡ 43 ∷ bs → ⊥
not_plus ds bs p e = let h = (first_is_digit ds bs 43 p e).low in omega arith

not_minus : (ds bs : List ℕ) → AreDigits ds → ds ≡ 45 ∷ bs → ⊥
not_minus ds bs p e = let h = (first_is_digit ds bs 45 p e).low in omega arith

same_heads : (a b : ℕ) (xs ys : List ℕ) → a ∷ xs ≡ b ∷ ys → a ≡ b
same_heads a b xs ys e = cc

pub one_power : (r s : Sign) (ds es : List ℕ) → IsPower ds → IsPower es → sign_bytes r ++ ds ≡ sign_bytes s ++ es → signed_exponent r (value_after 0 ds) ≡ signed_exponent s (value_after 0 es)
one_power no_sign no_sign ds es p q e = ap (λ t. pos (value_after 0 t)) e
one_power no_sign plus ds es p q e = absurd (not_plus ds es p.digits e)
one_power no_sign minus ds es p q e = absurd (not_minus ds es p.digits e)
one_power plus no_sign ds es p q e = absurd (not_plus es ds q.digits (sym e))
one_power plus plus ds es p q e = let same : ds ≡ es = cc in ap (λ t. pos (value_after 0 t)) same
one_power plus minus ds es p q e = let other = same_heads 43 45 ds es e in absurd (omega arith)
one_power minus no_sign ds es p q e = absurd (not_minus es ds q.digits (sym e))
one_power minus plus ds es p q e = let other = same_heads 45 43 ds es e in absurd (omega arith)
one_power minus minus ds es p q e = let same : ds ≡ es = cc in ap (λ t. neg_ℤ (pos (value_after 0 t))) same

pub one_exponent : (x y : Option Exponent) → IfSome x IsExponent → IfSome y IsExponent → exponent_bytes x ≡ exponent_bytes y → exponent_value x ≡ exponent_value y
one_exponent None None p q e = refl
one_exponent None (Some y) p q e = cc
one_exponent (Some x) None p q e = cc
one_exponent (Some x) (Some y) p q e = one_power x.sign y.sign x.digits y.digits p.digits q.digits (cc)

pub one_literal : (l m : Literal) → IsLiteral l → IsLiteral m → spelling l ≡ spelling m → (l.negative ≡ m.negative) × (digits_value l ≡ digits_value m) × (scale l ≡ scale m)
one_literal l m h k e =
    let integer : l.integer ≡ m.integer = sym (integer-spelled l h) ∙ ap (λ t. digits_at_front (unsigned t)) e ∙ integer-spelled m k in
    let tail : tail_bytes l ≡ tail_bytes m = sym (tail-spelled l h) ∙ ap (λ t. after (unsigned t)) e ∙ tail-spelled m k in
    let fraction : l.fraction ≡ m.fraction = sym (fraction-spelled l.fraction l.exponent h.fraction h.exponent) ∙ ap fraction_at tail ∙ fraction-spelled m.fraction m.exponent k.fraction k.exponent in
    let rest : exponent_bytes l.exponent ≡ exponent_bytes m.exponent = sym (rest-spelled l.fraction l.exponent h.fraction h.exponent) ∙ ap rest_at tail ∙ rest-spelled m.fraction m.exponent k.fraction k.exponent in
    let power : exponent_value l.exponent ≡ exponent_value m.exponent = one_exponent l.exponent m.exponent h.exponent k.exponent rest in
    (sym (minus-spelled l h) ∙ ap starts_with_minus e ∙ minus-spelled m k, ap₂ (λ i f. value_after 0 (i ++ f)) integer fraction, ap₂ (λ x f. x -ℤ pos (length f)) power fraction)

pub moved : {b c : Bool} {v w : ℕ} {s t : ℤ} {m : Number} → b ≡ c → v ≡ w → s ≡ t → IsNormalForm b v s m → IsNormalForm c w t m
moved {b} {c} {v} {w} {s} {t} {m} e f g h =
    let P : Bool → Type 0 = λ x. IsNormalForm x v s m in
    let Q : ℕ → Type 0 = λ x. IsNormalForm c x s m in
    let R : ℤ → Type 0 = λ x. IsNormalForm c w x m in
    subst R g (subst Q f (subst P e h))

pub one_number_of : (bytes : List ℕ) (m n : Number) → IsLiteralOf bytes m → IsLiteralOf bytes n → m ≡ n
one_number_of bytes m n h k =
    let same = one_literal h.literal k.literal h.is k.is (sym h.spelled ∙ k.spelled) in
    one_normal_form k.literal.negative (digits_value k.literal) (scale k.literal) m n (moved same.0 same.1 same.2 h.stands) k.stands

pub literal_of_scan : (bytes : List ℕ) (negative : Bool) (value : ℕ) (power : ℤ) (n : Number) → IsScanned bytes negative value power → IsNormalForm negative value power n → IsLiteralOf bytes n
literal_of_scan bytes negative value power n s h = record {
  literal = s.literal;
  is = s.is;
  spelled = s.spelled;
  stands = moved s.sign_is s.value_is s.power_is h;
}

pub same_number : (l : Literal) (n : Number) → IsLiteral l → IsLiteralOf (spelling l) n → StandsFor l n
same_number l n h x =
    let same = one_literal x.literal l x.is h (sym x.spelled) in
    moved same.0 same.1 same.2 x.stands
