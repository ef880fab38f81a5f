-- Taking the zeros off the end of a number.
use Rattle.std.proofs.Common.{◌≡◌, ◌≢◌, ℕ, zero, suc, ◌+◌, ◌*◌, ◌/◌, ◌%◌, ◌^◌, ◌<◌, ◌≤◌, ◌==◌, ◌⊎◌, inl, inr, if◌then◌else◌, Bool, true, false, add-one, refl, sym, ap, ◌∙◌, arith}
use Rattle.std.proofs.Math.Nat.{mul_assoc, pow-succ'}
use Rattle.std.proofs.lemmas.Bool.{eqb-true, cases_Bool}
use Rattle.canon_text.specs.Numbers.{without_zeros}

no_test : (a b : ℕ) → a ≢ b → (a == b) ≡ false
no_test a b h = by (cases_Bool (a == b))
  where
    by : ((a == b) ≡ true) ⊎ ((a == b) ≡ false) → (a == b) ≡ false
    by (inl t) = absurd (h (eqb-true a b t))
    by (inr f) = f

one_off : (most n zeros : ℕ) → n % 10 ≡ 0 → without_zeros (suc most) n zeros ≡ without_zeros most (n / 10) (suc zeros)
one_off most n zeros e = ap (λ (r : ℕ). if r == 0 then without_zeros most (n / 10) (suc zeros) else (n, zeros)) e

-- where no zero stands at the end
pub none_off : (most n zeros : ℕ) → n % 10 ≢ 0 → without_zeros most n zeros ≡ (n, zeros)
none_off zero n z h = refl
none_off (suc most) n zeros h = ap (λ (b : Bool). if b then without_zeros most (n / 10) (suc zeros) else (n, zeros)) (no_test (n % 10) 0 h)

tenfold : (n tens zeros : ℕ) → n ≡ tens * 10 → tens * 10 ^ (zeros + 1) ≡ n * 10 ^ zeros
tenfold n tens zeros e = ap (λ (z : ℕ). tens * 10 ^ z) (add-one zeros) ∙ ap (λ (p : ℕ). tens * p) (pow-succ' 10 zeros) ∙ sym (mul_assoc tens 10 (10 ^ zeros)) ∙ ap (λ (m : ℕ). m * 10 ^ zeros) (sym e)

-- one zero less
pub zeros_step : (size digits zeros most : ℕ) → digits % 10 ≡ 0 → digits ≤ most → without_zeros most digits zeros ≡ without_zeros size size 0 → 0 < digits
    → digits * 10 ^ zeros ≡ size → zeros < 9
    → (x : ℕ) × (digits / 10 ≤ x) × (without_zeros x (digits / 10) (zeros + 1) ≡ without_zeros size size 0) × (0 < digits / 10) × (digits / 10 * 10 ^ (zeros + 1) ≡ size) × (zeros + 1 ≤ 9)
zeros_step size digits z zero e le value some product few = absurd (omega arith)
zeros_step size digits zeros (suc most) e le value some product few =
    let tenth : digits ≡ digits / 10 * 10 = omega arith in (
      most,
      omega arith,
      ap (λ (z : ℕ). without_zeros most (digits / 10) z) (add-one zeros) ∙ sym (one_off most digits zeros e) ∙ value,
      omega arith,
      tenfold digits (digits / 10) zeros tenth ∙ product,
      omega arith,
    )
