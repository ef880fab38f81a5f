-- Each number has one decimal.
use Rattle.std.proofs.Common.{◌≡◌, ◌≢◌, ℕ, ◌*◌, ◌^◌, ◌≤◌, Bool, true, false, inl, inr, refl, ap, sym, ◌∙◌, arith, ℤ, Equal, unsigned_abs, mul-le-mul, zero-mul}
use Rattle.std.specs.Cmp.{int_ranked}
use Rattle.std.proofs.lemmas.Int.{ints}
use Rattle.std.proofs.lemmas.Bool.{cases_eq}
use Rattle.json_decimal.specs.declared.decimal.Decimal.{Decimal}
use Rattle.json_decimal.specs.Number.{Number}
use Rattle.json_decimal.specs.Decimals.{number_of}
use Rattle.json_decimal.specs.Comparing.{above, signed, order_of}
use Rattle.json_decimal.proofs.Powers.{ten_positive}
use Rattle.json_decimal.proofs.Unique.{same_coefficient, same_fields}
use Rattle.json_decimal.proofs.ReadsBack.{IsDecimal, is_decimal}
use Rattle.json_decimal.proofs.Sizes.{above_from, below_from, ordered, both_scaled}
use Rattle.json_decimal.proofs.Wholes.{size_of_signed}

same_sign : (b c : Bool) (x y : ℕ) → 1 ≤ x → x ≡ y → signed b x ≡ signed c y → b ≡ c
same_sign false false x y some e h = refl
same_sign false true x y some e h = absurd (omega (arith, ints))
same_sign true false x y some e h = absurd (omega (arith, ints))
same_sign true true x y some e h = refl

product_some : (c k : ℕ) → c ≢ 0 → 1 ≤ c * 10 ^ k
product_some c k some =
    let one : 1 ≤ c = omega arith in
    let more : 1 * 1 ≤ c * 10 ^ k = mul-le-mul one (ten_positive k) in
    omega arith

no_product : (c k : ℕ) → c * 10 ^ k ≡ 0 → c ≡ 0
no_product c k e = elim (cases_eq c 0) [ inl none ↦ none | inr some ↦ absurd (let more = product_some c k some in omega arith) ]

same_exponent : (p q : ℤ) → above q p ≡ above p q → p ≡ q
same_exponent p q e = elim (ordered p q) [
  | inl h ↦ (let apart = h.1 in let none : h.0 ≡ 0 = sym (above_from p q h.0 h.1) ∙ e ∙ below_from q p h.0 h.1 in omega (arith, ints))
  | inr h ↦ (let apart = h.1 in let none : h.0 ≡ 0 = sym (above_from q p h.0 h.1) ∙ sym e ∙ below_from p q h.0 h.1 in omega (arith, ints))
]

pub same_values : (m n : Number) → IsDecimal m → IsDecimal n → order_of m n ≡ Equal → m ≡ n
same_values m n d f h =
    let x : ℕ = m.coefficient * 10 ^ above n.exponent m.exponent in
    let y : ℕ = n.coefficient * 10 ^ above m.exponent n.exponent in
    let scaled : signed m.negative x ≡ signed n.negative y = int_ranked (signed m.negative x) (signed n.negative y) Equal (sym h ∙ both_scaled m n) in
    let sizes : x ≡ y = sym (size_of_signed m.negative x) ∙ ap unsigned_abs scaled ∙ size_of_signed n.negative y in
    elim (cases_eq m.coefficient 0) [
      | inl none ↦ both_zero none (no_product n.coefficient (above m.exponent n.exponent) (sym sizes ∙ ap (λ t. t * 10 ^ above n.exponent m.exponent) none ∙ zero-mul (10 ^ above n.exponent m.exponent)))
      | inr some ↦ both_some some scaled sizes
    ]
  where
    both_zero : m.coefficient ≡ 0 → n.coefficient ≡ 0 → m ≡ n
    both_zero p q = same_fields m n ((d.zero p).0 ∙ sym (f.zero q).0) (p ∙ sym q) ((d.zero p).1 ∙ sym (f.zero q).1)

    both_some : m.coefficient ≢ 0 → signed m.negative (m.coefficient * 10 ^ above n.exponent m.exponent) ≡ signed n.negative (n.coefficient * 10 ^ above m.exponent n.exponent)
        → m.coefficient * 10 ^ above n.exponent m.exponent ≡ n.coefficient * 10 ^ above m.exponent n.exponent → m ≡ n
    both_some some scaled sizes =
        let more = product_some m.coefficient (above n.exponent m.exponent) some in
        let other : n.coefficient ≢ 0 = λ none. (let nothing : n.coefficient * 10 ^ above m.exponent n.exponent ≡ 0 = ap (λ t. t * 10 ^ above m.exponent n.exponent) none ∙ zero-mul (10 ^ above m.exponent n.exponent) in omega arith) in
        let same = same_coefficient m.coefficient n.coefficient (above n.exponent m.exponent) (above m.exponent n.exponent) sizes (λ last. some (d.trimmed last)) (λ last. other (f.trimmed last)) in
        same_fields m n (same_sign m.negative n.negative _ _ more sizes scaled) same.0 (same_exponent m.exponent n.exponent same.1)

pub one_decimal : (a b : Decimal) → order_of (number_of a) (number_of b) ≡ Equal → number_of a ≡ number_of b
one_decimal a b h = same_values (number_of a) (number_of b) (is_decimal a) (is_decimal b) h
