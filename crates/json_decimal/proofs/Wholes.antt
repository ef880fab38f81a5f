-- Numbers that are whole.
use Rattle.std.proofs.Common.{◌≡◌, ◌≢◌, ℕ, zero, suc, ◌+◌, ◌*◌, ◌-◌, ◌/◌, ◌%◌, ◌^◌, ◌<◌, ◌≤◌, Bool, true, false, ◌⊎◌, inl, inr, refl, ap, ap₂, sym, ◌∙◌, subst, arith, ℤ, pos, negsuc, ◌+ℤ◌, ◌*ℤ◌, ◌<ℤ◌, ◌≤ℤ◌, unsigned_abs, mul-le-mul, mul-one, zero-mul, mul_assoc, Option, Result, Ok, Err, OkIff, MatchOption, FitsSigned}
use Rattle.std.specs.Int.{Width}
use Rattle.std.specs.Result.{result_ok}
use Rattle.std.proofs.Math.Nat.{mul-div_cancel}
use Rattle.std.proofs.lemmas.Int.{ints, unsigned_abs-mul}
use Rattle.json_decimal.specs.Number.{Number}
use Rattle.json_decimal.specs.Comparing.{above, signed, IsWhole}
use Rattle.json_decimal.specs.Machinery.Sizes.{IsSize}
use Rattle.json_decimal.proofs.Powers.{ten_grows, ten_positive, ten_suc}
use Rattle.json_decimal.proofs.ReadsBack.{IsDecimal}
use Rattle.json_decimal.proofs.Sizes.{above_from, below_from, ordered, lesser_first, lesser_second}

-- ---- the size, by the sign of the exponent
pub size_cases : (x : Number) (n : ℕ) → IsSize x n
    → ((k : ℕ) × (x.exponent ≡ pos 0 +ℤ pos k) × (x.coefficient * 10 ^ k ≡ n)) ⊎ ((k : ℕ) × (pos 0 ≡ x.exponent +ℤ pos k) × (x.coefficient ≡ n * 10 ^ k))
size_cases x n h = elim (ordered x.exponent (pos 0)) [
  | inl e ↦ inl (e.0, e.1, sym (ap (λ i. x.coefficient * 10 ^ i) (above_from x.exponent (pos 0) e.0 e.1)) ∙ h ∙ ap (λ j. n * 10 ^ j) (below_from (pos 0) x.exponent e.0 e.1) ∙ mul-one n)
  | inr e ↦ inr (e.0, e.1, sym (ap (λ i. x.coefficient * 10 ^ i) (below_from x.exponent (pos 0) e.0 e.1) ∙ mul-one x.coefficient) ∙ h ∙ ap (λ j. n * 10 ^ j) (above_from (pos 0) x.exponent e.0 e.1))
]

-- a number with digits behind the point is not whole
pub no_size_below : (x : Number) (n : ℕ) → IsDecimal x → x.exponent <ℤ pos 0 → IsSize x n → ⊥
no_size_below x n d low h = elim (size_cases x n h) [
  | inl e ↦ (let place = e.1 in absurd (omega (arith, ints)))
  | inr e ↦ ends_in_zero e.0 e.1 e.2
]
  where
    ends_in_zero : (k : ℕ) → pos 0 ≡ x.exponent +ℤ pos k → x.coefficient ≡ n * 10 ^ k → ⊥
    ends_in_zero k place e =
        let some : k ≡ (k - 1) + 1 = omega (arith, ints) in
        let whole : x.coefficient ≡ (n * 10 ^ (k - 1)) * 10 = e ∙ ap (λ j. n * 10 ^ j) some ∙ ap (λ t. n * t) (ten_suc (k - 1)) ∙ sym (mul_assoc n (10 ^ (k - 1)) 10) in
        let last : x.coefficient % 10 ≡ 0 = omega (arith, whole) in
        let none = (d.zero (d.trimmed last)).1 in
        omega (arith, ints)

-- a number with more than 18 zeros behind its digits is larger than 2 ^ 63
pub no_size_far : (x : Number) (n : ℕ) → IsDecimal x → pos 18 <ℤ x.exponent → n ≤ 2 ^ 63 → IsSize x n → ⊥
no_size_far x n d high few h = elim (size_cases x n h) [
  | inl e ↦ too_large e.0 e.1 e.2
  | inr e ↦ (let place = e.1 in absurd (omega (arith, ints)))
]
  where
    too_large : (k : ℕ) → x.exponent ≡ pos 0 +ℤ pos k → x.coefficient * 10 ^ k ≡ n → ⊥
    too_large k place e =
        let far : 19 ≤ k = omega (arith, ints) in
        let some : x.coefficient ≢ 0 = λ none. (let nothing = (d.zero none).1 in absurd (omega (arith, ints))) in
        let one : 1 ≤ x.coefficient = omega arith in
        let power : 10 ^ 19 ≤ 10 ^ k = ten_grows 19 k far in
        let more : 1 * 10 ^ 19 ≤ x.coefficient * 10 ^ k = mul-le-mul one power in
        omega arith

pub no_size_above : (x : Number) (n : ℕ) → pos 0 ≤ℤ x.exponent → 2 ^ 63 < x.coefficient → n ≤ 2 ^ 63 → IsSize x n → ⊥
no_size_above x n low large few h = elim (size_cases x n h) [
  | inl e ↦ too_large e.0 e.2
  | inr e ↦ (let place = e.1 in too_large_below e.0 (omega (arith, ints)) e.2)
]
  where
    too_large : (k : ℕ) → x.coefficient * 10 ^ k ≡ n → ⊥
    too_large k e = let more : x.coefficient * 1 ≤ x.coefficient * 10 ^ k = mul-le-mul (le_self x.coefficient) (ten_positive k) in omega arith
      where
        le_self : (m : ℕ) → m ≤ m
        le_self m = omega arith

    too_large_below : (k : ℕ) → k ≡ 0 → x.coefficient ≡ n * 10 ^ k → ⊥
    too_large_below k none e = let same : x.coefficient ≡ n = e ∙ ap (λ j. n * 10 ^ j) none ∙ mul-one n in omega arith

-- ---- with the sign
whole_scaled : (x : Number) (z : ℤ) → IsWhole x z → signed x.negative (x.coefficient * 10 ^ above (pos 0) x.exponent) ≡ z *ℤ pos (10 ^ above x.exponent (pos 0))
whole_scaled x z h = sym (ap (λ i. signed x.negative (x.coefficient * 10 ^ i)) (lesser_first x.exponent (pos 0))) ∙ h ∙ ap (λ j. z *ℤ pos (10 ^ j)) (lesser_second x.exponent (pos 0))

scaled_whole : (x : Number) (z : ℤ) → signed x.negative (x.coefficient * 10 ^ above (pos 0) x.exponent) ≡ z *ℤ pos (10 ^ above x.exponent (pos 0)) → IsWhole x z
scaled_whole x z h = ap (λ i. signed x.negative (x.coefficient * 10 ^ i)) (lesser_first x.exponent (pos 0)) ∙ h ∙ sym (ap (λ j. z *ℤ pos (10 ^ j)) (lesser_second x.exponent (pos 0)))

pub size_of_signed : (b : Bool) (n : ℕ) → unsigned_abs (signed b n) ≡ n
size_of_signed false n = refl
size_of_signed true zero = refl
size_of_signed true (suc n) = refl

pub size_from_whole : (x : Number) (z : ℤ) → IsWhole x z → IsSize x (unsigned_abs z)
size_from_whole x z h =
    sym (size_of_signed x.negative (x.coefficient * 10 ^ above (pos 0) x.exponent)) ∙ ap unsigned_abs (whole_scaled x z h) ∙ unsigned_abs-mul z (pos (10 ^ above x.exponent (pos 0)))

signed_product : (b : Bool) (n k : ℕ) → signed b (n * k) ≡ signed b n *ℤ pos k
signed_product false n k = refl
signed_product true zero k = rw (zero-mul k) refl
signed_product true (suc n) k = refl

pub whole_from_size : (x : Number) (n : ℕ) (b : Bool) → x.negative ≡ b → IsSize x n → IsWhole x (signed b n)
whole_from_size x n b e h = scaled_whole x (signed b n) (ap₂ signed e h ∙ signed_product b n (10 ^ above x.exponent (pos 0)))

cancel_product : (a b k : ℕ) → 0 < k → a * k ≡ b * k → a ≡ b
cancel_product a b k some e = sym (mul-div_cancel a some) ∙ ap (λ t. t / k) e ∙ mul-div_cancel b some

product_some : (n k : ℕ) → 0 < k → 1 ≤ suc n * k
product_some n k some = let one : 1 ≤ suc n = omega arith in let more : 1 * 1 ≤ suc n * k = mul-le-mul one some in omega arith

one_factor : (y z : ℤ) (k : ℕ) → 0 < k → y *ℤ pos k ≡ z *ℤ pos k → y ≡ z
one_factor (pos a) (pos b) k some e = let same : a * k ≡ b * k = omega (arith, ints) in ap pos (cancel_product a b k some same)
one_factor (pos a) (negsuc b) k some e = let more = product_some b k some in absurd (omega (arith, ints))
one_factor (negsuc a) (pos b) k some e = let more = product_some a k some in absurd (omega (arith, ints))
one_factor (negsuc a) (negsuc b) k some e =
    let same : suc a * k ≡ suc b * k = omega (arith, ints) in
    let whole : suc a ≡ suc b = cancel_product (suc a) (suc b) k some same in
    omega (arith, ints)

pub one_whole : (x : Number) (y z : ℤ) → IsWhole x y → IsWhole x z → y ≡ z
one_whole x y z g h = one_factor y z (10 ^ above x.exponent (pos 0)) (ten_positive (above x.exponent (pos 0))) (sym (whole_scaled x y g) ∙ whole_scaled x z h)

-- a whole number in the range of a narrower type
pub narrowed : {E : Type 0} (x : Number) (w : Width) (exact bits : ℤ) (t : Result ℤ E) (r : Option ℤ) → bits ≡ exact → IsWhole x exact → OkIff t (FitsSigned w bits) bits → r ≡ result_ok t
    → MatchOption r ((z : ℤ) → FitsSigned w z → IsWhole x z → ⊥) (λ z. IsWhole x z)
narrowed x w exact bits (Ok y) r e h o f =
    let P : ℤ → Type 0 = λ z. IsWhole x z in
    let Q : Option ℤ → Type 0 = λ r. MatchOption r ((z : ℤ) → FitsSigned w z → IsWhole x z → ⊥) (λ z. IsWhole x z) in
    subst Q (sym f) (subst P (sym e ∙ sym o.1) h)
narrowed x w exact bits (Err e') r e h o f =
    let Q : Option ℤ → Type 0 = λ r. MatchOption r ((z : ℤ) → FitsSigned w z → IsWhole x z → ⊥) (λ z. IsWhole x z) in
    let R : ℤ → Type 0 = λ z. FitsSigned w z in
    subst Q (sym f) (λ z fits whole. o (subst R (one_whole x z exact whole h ∙ sym e) fits))
