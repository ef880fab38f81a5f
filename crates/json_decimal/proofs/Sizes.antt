-- The order of numbers.
use Rattle.std.proofs.Common.{◌≡◌, ◌≢◌, ℕ, zero, suc, ◌+◌, ◌*◌, ◌-◌, ◌^◌, ◌<◌, ◌≤◌, Bool, true, false, ◌⊎◌, inl, inr, refl, ap, ap₂, sym, ◌∙◌, arith, ℤ, pos, negsuc, neg_ℤ, ◌+ℤ◌, ◌-ℤ◌, ◌<ℤ◌, nat_cmp, int_cmp, Ordering, Less, Equal, Greater, mul-le-mul, mul-lt-mul_of_pos_right, zero-mul}
use Rattle.std.specs.Int.{int_min}
use Rattle.std.specs.Ordering.{MatchOrdering}
use Rattle.std.specs.Cmp.{ranked, int_ranked, nat_cmp_is, int_cmp_is}
use Rattle.std.proofs.lemmas.Int.{ints, clamps}
use Rattle.std.proofs.lemmas.Nat.{pow-add}
use Rattle.std.proofs.lemmas.Bool.{cases_lt}
use Rattle.json_decimal.specs.Number.{Number}
use Rattle.json_decimal.specs.Comparing.{distance, above, signed, order_of}
use Rattle.json_decimal.proofs.Powers.{ten_grows, ten_positive}

-- ---- how far exponents are apart
pub above_from : (p q : ℤ) (n : ℕ) → p ≡ q +ℤ pos n → above q p ≡ n
above_from p q n e = let apart : p -ℤ q ≡ pos n = omega (arith, ints) in ap distance apart

distance_below : (n : ℕ) → distance (neg_ℤ (pos n)) ≡ 0
distance_below zero = refl
distance_below (suc n) = refl

pub below_from : (p q : ℤ) (n : ℕ) → q ≡ p +ℤ pos n → above q p ≡ 0
below_from p q n e = let apart : p -ℤ q ≡ neg_ℤ (pos n) = omega (arith, ints) in ap distance apart ∙ distance_below n

pub ordered : (p q : ℤ) → ((n : ℕ) × (p ≡ q +ℤ pos n)) ⊎ ((n : ℕ) × (q ≡ p +ℤ pos n))
ordered p q = by_difference (p -ℤ q) refl
  where
    by_difference : (z : ℤ) → p -ℤ q ≡ z → ((n : ℕ) × (p ≡ q +ℤ pos n)) ⊎ ((n : ℕ) × (q ≡ p +ℤ pos n))
    by_difference (pos n) e = inl (n, omega (arith, ints))
    by_difference (negsuc n) e = inr (suc n, omega (arith, ints))

lesser_is : (p q : ℤ) → ((n : ℕ) × (p ≡ q +ℤ pos n) × (int_min p q ≡ q)) ⊎ ((n : ℕ) × (q ≡ p +ℤ pos n) × (int_min p q ≡ p))
lesser_is p q = elim (ordered p q) [
  | inl h ↦ (let e = h.1 in inl (h.0, h.1, omega (arith, ints, clamps)))
  | inr h ↦ (let e = h.1 in inr (h.0, h.1, omega (arith, ints, clamps)))
]

itself : (p : ℤ) → p ≡ p +ℤ pos 0
itself p = omega (arith, ints)

-- scaling to the lesser exponent is scaling to the other one, where this is lower
pub lesser_first : (p q : ℤ) → above (int_min p q) p ≡ above q p
lesser_first p q = elim (lesser_is p q) [
  | inl h ↦ ap (λ t. above t p) h.2
  | inr h ↦ ap (λ t. above t p) h.2 ∙ above_from p p 0 (itself p) ∙ sym (below_from p q h.0 h.1)
]

pub lesser_second : (p q : ℤ) → above (int_min p q) q ≡ above p q
lesser_second p q = elim (lesser_is p q) [
  | inl h ↦ ap (λ t. above t q) h.2 ∙ above_from q q 0 (itself q) ∙ sym (below_from q p h.0 h.1)
  | inr h ↦ ap (λ t. above t q) h.2
]

-- ---- sizes
-- fewer digits, with the zeros behind them, make a smaller number
below_by_digits : (a b s t i j : ℕ) → a < 10 ^ s → 10 ^ t ≤ b → s + i ≤ t + j → a * 10 ^ i < b * 10 ^ j
below_by_digits a b s t i j high low fewer =
    let first : a * 10 ^ i < 10 ^ s * 10 ^ i = mul-lt-mul_of_pos_right high (ten_positive i) in
    let second : 10 ^ t * 10 ^ j ≤ b * 10 ^ j = mul-le-mul low (le_self (10 ^ j)) in
    let between : 10 ^ (s + i) ≤ 10 ^ (t + j) = ten_grows (s + i) (t + j) fewer in
    let left = pow-add 10 s i in
    let right = pow-add 10 t j in
    omega arith
  where
    le_self : (n : ℕ) → n ≤ n
    le_self n = omega arith

-- the number whose first digit counts a lower power is the smaller
pub below_by_tops : (a b s t : ℕ) (p q : ℤ) → a < 10 ^ s → 10 ^ (t - 1) ≤ b → 1 ≤ t → (p +ℤ pos s) <ℤ (q +ℤ pos t) → a * 10 ^ above q p < b * 10 ^ above p q
below_by_tops a b s t p q high low some less = elim (ordered p q) [
  | inl h ↦ (let e = h.1 in let i = above_from p q h.0 h.1 in let j = below_from q p h.0 h.1 in
      below_by_digits a b s (t - 1) (above q p) (above p q) high low (few_first h.0 e i j))
  | inr h ↦ (let e = h.1 in let i = below_from p q h.0 h.1 in let j = above_from q p h.0 h.1 in
      below_by_digits a b s (t - 1) (above q p) (above p q) high low (few_second h.0 e i j))
]
  where
    few_first : (n : ℕ) → p ≡ q +ℤ pos n → above q p ≡ n → above p q ≡ 0 → s + above q p ≤ (t - 1) + above p q
    few_first n e i j = let fewer : n + s < t = omega (arith, ints) in omega arith

    few_second : (n : ℕ) → q ≡ p +ℤ pos n → above q p ≡ 0 → above p q ≡ n → s + above q p ≤ (t - 1) + above p q
    few_second n e i j = let fewer : s < n + t = omega (arith, ints) in omega arith

-- what an answer says at other numbers
moved_order : (r : Ordering) (P Q R P' Q' R' : Type 0) → (P → P') → (Q → Q') → (R → R') → MatchOrdering r P Q R → MatchOrdering r P' Q' R'
moved_order Less P Q R P' Q' R' f g h m = f m
moved_order Equal P Q R P' Q' R' f g h m = g m
moved_order Greater P Q R P' Q' R' f g h m = h m

-- numbers whose first digits count different powers are ordered by these
pub order_by_tops : (r : Ordering) (a b s t : ℕ) (p q x y : ℤ) → r ≡ int_cmp x y → r ≢ Equal → x ≡ p +ℤ pos s → y ≡ q +ℤ pos t
    → a < 10 ^ s → 10 ^ (s - 1) ≤ a → 1 ≤ s → b < 10 ^ t → 10 ^ (t - 1) ≤ b → 1 ≤ t → r ≡ nat_cmp (a * 10 ^ above q p) (b * 10 ^ above p q)
order_by_tops Less a b s t p q x y e other f g below_a least_a some_a below_b least_b some_b =
    let less : x <ℤ y = int_ranked x y Less e in
    nat_cmp_is (a * 10 ^ above q p) (b * 10 ^ above p q) Less (below_by_tops a b s t p q below_a least_b some_b (omega (arith, ints)))
order_by_tops Equal a b s t p q x y e other f g below_a least_a some_a below_b least_b some_b = absurd (other refl)
order_by_tops Greater a b s t p q x y e other f g below_a least_a some_a below_b least_b some_b =
    let more : y <ℤ x = int_ranked x y Greater e in
    nat_cmp_is (a * 10 ^ above q p) (b * 10 ^ above p q) Greater (below_by_tops b a t s q p below_b least_a some_a (omega (arith, ints)))

-- numbers whose first digits count the same power are ordered as their digits are, written to one length
pub order_aligned : (r : Ordering) (a b s t : ℕ) (p q x y : ℤ) → Equal ≡ int_cmp x y → x ≡ p +ℤ pos s → y ≡ q +ℤ pos t → r ≡ nat_cmp (a * 10 ^ (t - s)) (b * 10 ^ (s - t)) → r ≡ nat_cmp (a * 10 ^ above q p) (b * 10 ^ above p q)
order_aligned r a b s t p q x y e f g o =
    let same : x ≡ y = int_ranked x y Equal e in
    o ∙ sym (ap₂ (λ i j. nat_cmp (a * 10 ^ i) (b * 10 ^ j)) (aligned s t p q (omega (arith, ints))) (aligned t s q p (omega (arith, ints))))
  where
    aligned : (s t : ℕ) (p q : ℤ) → p +ℤ pos s ≡ q +ℤ pos t → above q p ≡ t - s
    aligned s t p q e = elim (cases_lt t s) [
      | inl h ↦ (let none : t - s ≡ 0 = omega arith in below_from p q (s - t) (omega (arith, ints)) ∙ sym none)
      | inr h ↦ above_from p q (t - s) (omega (arith, ints))
    ]

-- a number with fewer digits fits 128 bits with the zeros that are wanting
pub aligned_fits : (a s t : ℕ) → a < 10 ^ s → s ≤ t → t ≤ 38 → a * 10 ^ (t - s) < 2 ^ 128
aligned_fits a s t below less few =
    let wide : a * 10 ^ (t - s) < 10 ^ s * 10 ^ (t - s) = mul-lt-mul_of_pos_right below (ten_positive (t - s)) in
    let whole : s + (t - s) ≡ t = omega arith in
    let power : 10 ^ s * 10 ^ (t - s) ≡ 10 ^ t = sym (pow-add 10 s (t - s)) ∙ ap (λ k. 10 ^ k) whole in
    let most : 10 ^ t ≤ 10 ^ 38 = ten_grows t 38 few in
    omega arith

pub power_fits : (k : ℕ) → k ≤ 38 → 10 ^ k < 2 ^ 128
power_fits k few = let most : 10 ^ k ≤ 10 ^ 38 = ten_grows k 38 few in omega arith

-- zero compares as it does with the coefficient alone
pub order_with_zero : (r : Ordering) (a b i j : ℕ) → (a ≡ 0) ⊎ (b ≡ 0) → r ≡ nat_cmp a b → r ≡ nat_cmp (a * 10 ^ i) (b * 10 ^ j)
order_with_zero r a b i j none e =
    nat_cmp_is (a * 10 ^ i) (b * 10 ^ j) r (elim none [
      | inl p ↦ moved_order r (a < b) (a ≡ b) (b < a) _ _ _
          (λ less. rw (empty a i p) (product_some b j (omega arith)))
          (λ same. empty a i p ∙ sym (empty b j (sym same ∙ p)))
          (λ more. absurd (omega arith))
          (ranked a b r e)
      | inr p ↦ moved_order r (a < b) (a ≡ b) (b < a) _ _ _
          (λ less. absurd (omega arith))
          (λ same. empty a i (same ∙ p) ∙ sym (empty b j p))
          (λ more. rw (empty b j p) (product_some a i (omega arith)))
          (ranked a b r e)
    ])
  where
    empty : (n k : ℕ) → n ≡ 0 → n * 10 ^ k ≡ 0
    empty n k e = ap (λ t. t * 10 ^ k) e ∙ zero-mul (10 ^ k)

    product_some : (n k : ℕ) → 0 < n → 0 < n * 10 ^ k
    product_some n k h = let more : 1 * 1 ≤ n * 10 ^ k = mul-le-mul h (ten_positive k) in omega arith

-- ---- signs
nat_as_int : (x y : ℕ) → nat_cmp x y ≡ int_cmp (pos x) (pos y)
nat_as_int x y = int_cmp_is (pos x) (pos y) (nat_cmp x y)
    (moved_order (nat_cmp x y) (x < y) (x ≡ y) (y < x) _ _ _ (λ less. omega (arith, ints)) (λ same. ap pos same) (λ more. omega (arith, ints)) (ranked x y (nat_cmp x y) refl))

nat_as_negative : (x y : ℕ) → nat_cmp y x ≡ int_cmp (neg_ℤ (pos x)) (neg_ℤ (pos y))
nat_as_negative x y = int_cmp_is (neg_ℤ (pos x)) (neg_ℤ (pos y)) (nat_cmp y x)
    (moved_order (nat_cmp y x) (y < x) (y ≡ x) (x < y) _ _ _ (λ less. omega (arith, ints)) (λ same. ap (λ t. neg_ℤ (pos t)) (sym same)) (λ more. omega (arith, ints)) (ranked y x (nat_cmp y x) refl))

-- both numbers, scaled to the lesser exponent
pub both_scaled : (m n : Number) → order_of m n ≡ int_cmp (signed m.negative (m.coefficient * 10 ^ above n.exponent m.exponent)) (signed n.negative (n.coefficient * 10 ^ above m.exponent n.exponent))
both_scaled m n = ap₂ (λ i j. int_cmp (signed m.negative (m.coefficient * 10 ^ i)) (signed n.negative (n.coefficient * 10 ^ j))) (lesser_first m.exponent n.exponent) (lesser_second m.exponent n.exponent)

with_signs : (m n : Number) (b c : Bool) → m.negative ≡ b → n.negative ≡ c
    → order_of m n ≡ int_cmp (signed b (m.coefficient * 10 ^ above n.exponent m.exponent)) (signed c (n.coefficient * 10 ^ above m.exponent n.exponent))
with_signs m n b c e f = both_scaled m n ∙ ap₂ (λ x y. int_cmp (signed x (m.coefficient * 10 ^ above n.exponent m.exponent)) (signed y (n.coefficient * 10 ^ above m.exponent n.exponent))) e f

pub order_positive : (m n : Number) → m.negative ≡ false → n.negative ≡ false
    → nat_cmp (m.coefficient * 10 ^ above n.exponent m.exponent) (n.coefficient * 10 ^ above m.exponent n.exponent) ≡ order_of m n
order_positive m n e f = nat_as_int (m.coefficient * 10 ^ above n.exponent m.exponent) (n.coefficient * 10 ^ above m.exponent n.exponent) ∙ sym (with_signs m n false false e f)

pub order_negative : (m n : Number) → m.negative ≡ true → n.negative ≡ true
    → nat_cmp (n.coefficient * 10 ^ above m.exponent n.exponent) (m.coefficient * 10 ^ above n.exponent m.exponent) ≡ order_of m n
order_negative m n e f = nat_as_negative (m.coefficient * 10 ^ above n.exponent m.exponent) (n.coefficient * 10 ^ above m.exponent n.exponent) ∙ sym (with_signs m n true true e f)

-- a negative decimal is not zero
below_zero : (c k : ℕ) → c ≢ 0 → neg_ℤ (pos (c * 10 ^ k)) <ℤ pos 0
below_zero c k some =
    let one : 1 ≤ c = omega arith in
    let more : 1 * 1 ≤ c * 10 ^ k = mul-le-mul one (ten_positive k) in
    omega (arith, ints)

pub order_less : (m n : Number) → m.negative ≡ true → n.negative ≡ false → m.coefficient ≢ 0 → Less ≡ order_of m n
order_less m n e f some =
    let low = below_zero m.coefficient (above n.exponent m.exponent) some in
    int_cmp_is (neg_ℤ (pos (m.coefficient * 10 ^ above n.exponent m.exponent))) (pos (n.coefficient * 10 ^ above m.exponent n.exponent)) Less (omega (arith, ints)) ∙ sym (with_signs m n true false e f)

pub order_greater : (m n : Number) → m.negative ≡ false → n.negative ≡ true → n.coefficient ≢ 0 → Greater ≡ order_of m n
order_greater m n e f some =
    let low = below_zero n.coefficient (above m.exponent n.exponent) some in
    int_cmp_is (pos (m.coefficient * 10 ^ above n.exponent m.exponent)) (neg_ℤ (pos (n.coefficient * 10 ^ above m.exponent n.exponent))) Greater (omega (arith, ints)) ∙ sym (with_signs m n false true e f)
