-- A whole number is told by its normal form.
use Rattle.std.proofs.Common.{◌≡◌, ◌≢◌, ℕ, zero, suc, ◌*◌, ◌/◌, ◌%◌, ◌^◌, ◌<◌, ◌≤◌, ◌==◌, if◌then◌else◌, Bool, true, false, ℤ, pos, negsuc, refl, sym, ap, ◌∙◌, arith}
use Rattle.std.proofs.Math.Nat.{mul_assoc, pow-succ'}
use Rattle.std.proofs.lemmas.Bool.{eqb-true}
use Rattle.json_decimal.specs.Number.{Number}
use Rattle.canon_text.specs.Numbers.{without_zeros, sized, whole}

-- what is left, with the zeros that were taken off
kept_size : (most n z : ℕ) → (without_zeros most n z).0 * 10 ^ (without_zeros most n z).1 ≡ n * 10 ^ z
kept_size zero n z = refl
kept_size (suc most) n z = by (n % 10 == 0) (λ t. kept_size most (n / 10) (suc z) ∙ tenfold (eqb-true (n % 10) 0 t)) refl
  where
    tenfold : n % 10 ≡ 0 → n / 10 * 10 ^ suc z ≡ n * 10 ^ z
    tenfold e =
        let tens : n / 10 * 10 ≡ n = omega arith in
        ap (λ (p : ℕ). n / 10 * p) (pow-succ' 10 z) ∙ sym (mul_assoc (n / 10) 10 (10 ^ z)) ∙ ap (λ (m : ℕ). m * 10 ^ z) tens

    size : ℕ × ℕ → ℕ
    size w = w.0 * 10 ^ w.1

    by : (b : Bool) → ((n % 10 == 0) ≡ true → size (without_zeros most (n / 10) (suc z)) ≡ n * 10 ^ z) → (n % 10 == 0) ≡ b
        → size (if b then without_zeros most (n / 10) (suc z) else (n, z)) ≡ n * 10 ^ z
    by true later t = later t
    by false later t = refl

-- what is left of some has no zero at its end
pub trimmed : (most n z : ℕ) → n ≤ most → 0 < n → (without_zeros most n z).0 % 10 ≢ 0
trimmed zero n z few some = absurd (omega arith)
trimmed (suc most) n z few some = by (n % 10 == 0) (λ t. (let last = eqb-true (n % 10) 0 t in trimmed most (n / 10) (suc z) (omega arith) (omega arith))) refl
  where
    by : (b : Bool) → ((n % 10 == 0) ≡ true → (without_zeros most (n / 10) (suc z)).0 % 10 ≢ 0) → (n % 10 == 0) ≡ b
        → (if b then without_zeros most (n / 10) (suc z) else (n, z)).0 % 10 ≢ 0
    by true later t = later t
    by false later t = λ e. let f : true ≡ false = sym (ap (λ (r : ℕ). r == 0) e) ∙ t in cc

abbrev pub exponent_size : ℤ → ℕ
exponent_size (pos n) = n
exponent_size (negsuc n) = 0

abbrev pub size_of : Number → ℕ
size_of n = n.coefficient * 10 ^ exponent_size n.exponent

pub size_sized : (negative : Bool) (n : ℕ) → size_of (sized negative n) ≡ n
size_sized negative zero = refl
size_sized negative (suc n) = kept_size (suc n) (suc n) 0 ∙ omega arith

abbrev pub is_negative : Number → Bool
is_negative n = n.negative

pub sign_sized : (n : ℕ) → is_negative (sized false n) ≡ false
sign_sized zero = refl
sign_sized (suc n) = refl

pub whole_told : (y z : ℤ) → whole y ≡ whole z → y ≡ z
whole_told (pos m) (pos n) e = ap pos (sym (size_sized false m) ∙ ap size_of e ∙ size_sized false n)
whole_told (pos m) (negsuc n) e = absurd (let f : false ≡ true = sym (sign_sized m) ∙ ap is_negative e in cc)
whole_told (negsuc m) (pos n) e = absurd (let f : true ≡ false = ap is_negative e ∙ sign_sized n in cc)
whole_told (negsuc m) (negsuc n) e =
    let same : suc m ≡ suc n = sym (size_sized true (suc m)) ∙ ap size_of e ∙ size_sized true (suc n) in
    let less : m ≡ n = omega arith in
    ap negsuc less
