-- Powers of ten.
use Rattle.std.proofs.Common.{◌≡◌, ◌≢◌, ℕ, ◌+◌, ◌*◌, ◌/◌, ◌%◌, ◌^◌, ◌<◌, ◌≤◌, inl, inr, sym, ap, ◌∙◌, arith, mul_assoc, mul_comm, pow-suc, add-one, mul-le-mul}
use Rattle.std.proofs.Math.Nat.{pow-le-pow_right, one-le-pow}
use Rattle.std.proofs.lemmas.Nat.{pow-add}
use Rattle.std.proofs.lemmas.Bool.{cases_lt}

pub ten_grows : (i j : ℕ) → i ≤ j → 10 ^ i ≤ 10 ^ j
ten_grows i j h = pow-le-pow_right (omega arith) h

pub ten_positive : (i : ℕ) → 1 ≤ 10 ^ i
ten_positive i = one-le-pow i 10 (omega arith)

pub ten_suc : (i : ℕ) → 10 ^ (i + 1) ≡ 10 ^ i * 10
ten_suc i = rw add-one (pow-suc 10 i)

-- a positive number with a factor 10 ^ tens has more digits than tens
pub few_tens : (left tens value k : ℕ) → left * 10 ^ tens ≡ value → 0 < left → value < 10 ^ k → tens < k
few_tens left tens value k e some below =
    elim (cases_lt tens k) [
      | inl h ↦ h
      | inr h ↦ absurd (let more : 10 ^ k ≤ 10 ^ tens = ten_grows k tens h in
          let whole : 1 * 10 ^ tens ≤ left * 10 ^ tens = mul-le-mul some (omega arith) in omega arith)
    ]

-- one zero less in front, one more behind
pub ten_moved : (left tens : ℕ) → left % 10 ≡ 0 → left / 10 * 10 ^ (tens + 1) ≡ left * 10 ^ tens
ten_moved left tens e =
    let whole : left / 10 * 10 ≡ left = omega arith in
    rw ten_suc (ap (λ n. left / 10 * n) (mul_comm (10 ^ tens) 10) ∙ sym (mul_assoc (left / 10) 10 (10 ^ tens)) ∙ ap (λ n. n * 10 ^ tens) whole)

pub tens_joined : (less left tens more value : ℕ) → less * 10 ^ more ≡ left → left * 10 ^ tens ≡ value → less * 10 ^ (tens + more) ≡ value
tens_joined less left tens more value e f =
    ap (λ n. less * n) (pow-add 10 tens more ∙ mul_comm (10 ^ tens) (10 ^ more)) ∙ sym (mul_assoc less (10 ^ more) (10 ^ tens)) ∙ ap (λ n. n * 10 ^ tens) e ∙ f

-- one more digit fits 128 bits
pub digit_fits : (value count digit : ℕ) → value < 10 ^ count → count < 38 → digit < 10 → value * 10 + digit < 2 ^ 128
digit_fits value count digit below few small =
    let most : 10 ^ count ≤ 10 ^ 37 = ten_grows count 37 (omega arith) in omega arith

pub short_digit_fits : (value count digit : ℕ) → value < 10 ^ count → count < 19 → digit < 10 → value * 10 + digit < 2 ^ 64
short_digit_fits value count digit below few small =
    let most : 10 ^ count ≤ 10 ^ 18 = ten_grows count 18 (omega arith) in
    omega arith

pub short_fits : (value count : ℕ) → value < 10 ^ count → count ≤ 19 → value < 2 ^ 64
short_fits value count below few =
    let most : 10 ^ count ≤ 10 ^ 19 = ten_grows count 19 few in
    omega arith

-- what has at most three digits is below a thousand
pub below_thousand : (value count : ℕ) → value < 10 ^ count → count ≤ 3 → value < 1000
below_thousand value count below few =
    let most : 10 ^ count ≤ 10 ^ 3 = ten_grows count 3 few in omega arith

pub some_from_last : (n : ℕ) → n % 10 ≢ 0 → 0 < n
some_from_last n h = omega arith
