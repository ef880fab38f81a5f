-- The digits that a number is written with.
use Rattle.std.proofs.Common.{◌≡◌, ◌≢◌, ℕ, zero, suc, ◌+◌, ◌*◌, ◌-◌, ◌/◌, ◌%◌, ◌^◌, ◌<◌, ◌≤◌, inl, inr, List, [], ◌∷◌, ◌++◌, length, slice_index, replicate, decimal, refl, ap, sym, ◌∙◌, arith, length-append, mul_assoc, mul_comm, pow-suc, add-zero, take, drop}
use Rattle.std.proofs.lemmas.Fmt.{decimal_by_steps_wide, decimal_digit}
use Rattle.std.proofs.lemmas.List.{get_or_append_left}
use Rattle.std.proofs.lemmas.Bool.{cases_lt, cases_eq}
use Rattle.json_decimal.specs.Literal.{IsDigit, AreDigits, value_after}
use Rattle.json_decimal.proofs.Powers.{ten_grows, ten_suc, ten_positive}
use Rattle.json_decimal.proofs.Parts.{value-append}

-- the digits that make n, with no zero in front
pub record IsWritten (n : ℕ) (ds : List ℕ) : Type 0 where
  pub digits : AreDigits ds
  pub value : value_after 0 ds ≡ n
  pub some : 1 ≤ length ds
  pub below : n < 10 ^ length ds
  pub least : 0 < n → 10 ^ (length ds - 1) ≤ n
  pub first : 0 < n → slice_index ds 0 ≢ 48

pub AreDigits-append : (xs ys : List ℕ) → AreDigits xs → AreDigits ys → AreDigits (xs ++ ys)
AreDigits-append [] ys p q = q
AreDigits-append (x ∷ xs) ys p q = (p.0, AreDigits-append xs ys p.1 q)

is_digit-value : (d : ℕ) → d < 10 → IsDigit (48 + d)
is_digit-value d h = record { low = omega arith; high = omega arith }

one_written : (n : ℕ) → n < 10 → IsWritten n ((48 + n) ∷ [])
one_written n h = record {
  digits = (is_digit-value n h, tt);
  value = omega arith;
  some = omega arith;
  below = omega arith;
  least = λ some. omega arith;
  first = λ some e. omega arith;
}

more_written : (n : ℕ) (ds : List ℕ) → 10 ≤ n → IsWritten (n / 10) ds → IsWritten n (ds ++ ((48 + n % 10) ∷ []))
more_written n ds h w =
    let some = w.some in
    let longer : length (ds ++ ((48 + n % 10) ∷ [])) ≡ length ds + 1 = length-append ds ((48 + n % 10) ∷ []) in
    let first : slice_index (ds ++ ((48 + n % 10) ∷ [])) 0 ≡ slice_index ds 0 = get_or_append_left ds ((48 + n % 10) ∷ []) 0 0 some in
    let high : 0 < n / 10 = omega arith in
    let below = w.below in
    let least = w.least high in
    let less : (length ds - 1) + 1 ≡ length ds = omega arith in
    let power : 10 ^ length ds ≡ 10 ^ (length ds - 1) * 10 = ap (λ t. 10 ^ t) (sym less) ∙ ten_suc (length ds - 1) in
    let same : (length ds + 1) - 1 ≡ length ds = omega arith in
    record {
      digits = AreDigits-append ds ((48 + n % 10) ∷ []) w.digits (is_digit-value (n % 10) (omega arith), tt);
      value = value-append 0 ds ((48 + n % 10) ∷ []) ∙ ap (λ t. t * 10 + ((48 + n % 10) - 48)) w.value ∙ last n;
      some = omega (arith, longer);
      below = rw (longer, ten_suc (length ds)) (omega arith);
      least = λ some. rw (longer, same, power) (omega arith);
      first = λ some e. w.first high (sym first ∙ e);
    }
  where
    last : (n : ℕ) → n / 10 * 10 + ((48 + n % 10) - 48) ≡ n
    last n = omega arith

pub written : (n : ℕ) → n < 10 ^ 64 → IsWritten n (decimal n)
written n h = decimal_by_steps_wide IsWritten one_written more_written n h

pub zero_written : decimal 0 ≡ 48 ∷ []
zero_written = decimal_digit 0 (omega arith)

-- how many digits there are
pub count_from_power : (n r : ℕ) → n < 10 ^ 64 → 10 ^ r ≤ n → n < 10 * 10 ^ r → length (decimal n) ≡ r + 1
count_from_power n r h low high =
    let w = written n h in
    let some = w.some in
    let positive = ten_positive r in
    let below = w.below in
    let least : 10 ^ (length (decimal n) - 1) ≤ n = w.least (omega arith) in
    let fewer : length (decimal n) < r + 1 → ⊥ = λ less. let grows : 10 ^ length (decimal n) ≤ 10 ^ r = ten_grows (length (decimal n)) r (omega arith) in omega arith in
    let more : r + 1 < length (decimal n) → ⊥ = λ less. let grows : 10 ^ (r + 1) ≤ 10 ^ (length (decimal n) - 1) = ten_grows (r + 1) (length (decimal n) - 1) (omega arith) in
    let next = ten_suc r in omega arith in
    omega arith

pub few_digits : (n k : ℕ) → n < 10 ^ 64 → 1 ≤ k → n < 10 ^ k → length (decimal n) ≤ k
few_digits n k h some high = elim (cases_lt k (length (decimal n))) [
  | inr few ↦ few
  | inl more ↦ elim (cases_eq n 0) [
    | inl none ↦ absurd (let one = ap (λ t. length (decimal t)) none ∙ ap length zero_written in omega arith)
    | inr positive ↦ absurd (let least = (written n h).least (omega arith) in let grows : 10 ^ k ≤ 10 ^ (length (decimal n) - 1) = ten_grows k (length (decimal n) - 1) (omega arith) in omega arith)
  ]
]

-- ---- zeros among digits
pub AreDigits-zeros : (k : ℕ) → AreDigits (replicate k 48)
AreDigits-zeros zero = tt
AreDigits-zeros (suc k) = (record { low = omega arith; high = omega arith }, AreDigits-zeros k)

pub value-zeros_after : (n k : ℕ) → value_after n (replicate k 48) ≡ n * 10 ^ k
value-zeros_after n zero = omega arith
value-zeros_after n (suc k) =
    let power : 10 ^ suc k ≡ 10 ^ k * 10 = pow-suc 10 k in
    value-zeros_after (n * 10 + 0) k ∙ ap (λ t. t * 10 ^ k) (add-zero (n * 10)) ∙ mul_assoc n 10 (10 ^ k) ∙ ap (λ t. n * t) (mul_comm 10 (10 ^ k) ∙ sym power)

pub value-zeros_before : (k : ℕ) (ds : List ℕ) → value_after 0 (replicate k 48 ++ ds) ≡ value_after 0 ds
value-zeros_before zero ds = refl
value-zeros_before (suc k) ds = value-zeros_before k ds

pub AreDigits-take : (k : ℕ) (ds : List ℕ) → AreDigits ds → AreDigits (take k ds)
AreDigits-take zero ds p = tt
AreDigits-take (suc k) [] p = tt
AreDigits-take (suc k) (d ∷ ds) p = (p.0, AreDigits-take k ds p.1)

pub AreDigits-drop : (k : ℕ) (ds : List ℕ) → AreDigits ds → AreDigits (drop k ds)
AreDigits-drop zero ds p = p
AreDigits-drop (suc k) [] p = tt
AreDigits-drop (suc k) (d ∷ ds) p = AreDigits-drop k ds p.1

pub count_below : (n r : ℕ) → n < 10 ^ 38 → r ≡ length (decimal n) → n < 10 ^ r
count_below n r h e = rw e (written n (omega arith)).below

pub count_least : (n r : ℕ) → n < 10 ^ 38 → n ≢ 0 → r ≡ length (decimal n) → 10 ^ (r - 1) ≤ n
count_least n r h some e = rw e ((written n (omega arith)).least (omega arith))
