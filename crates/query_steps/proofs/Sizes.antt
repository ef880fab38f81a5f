-- Which numbers TOP takes.
use Rattle.std.proofs.Common.{rules, ◌≡◌, ℕ, zero, suc, ◌+◌, ◌*◌, ◌^◌, ◌<◌, ◌≤◌, ◌⊎◌, inl, inr, Bool, true, false, ◌&&◌, not, nat_le, nat_lt, Option, Some, None, refl, sym, ap, ◌∙◌, arith, ℤ, pos, negsuc, ◌<ℤ◌}
use Rattle.std.proofs.Math.Nat.{pow-le-pow_right, mul-le-mul_left}
use Rattle.std.proofs.lemmas.Bool.Decides.{nat_tests}
use Rattle.query_grammar.specs.Grammar.{bounded_size, size_of}

pub size_past : (negative : Bool) (size : ℕ) → 1000000 < size → None ≡ bounded_size negative size
size_past negative size h = grind (arith, nat_tests)

pub size_zero : (negative : Bool) → None ≡ bounded_size negative 0
size_zero true = refl
size_zero false = refl

many_zeros : (c e : ℕ) → 0 < c → 6 < e → 1000000 < c * 10 ^ e
many_zeros c e p q =
    let base : 0 < 10 = omega arith in
    let up : 7 ≤ e = omega arith in
    let high : 10 ^ 7 ≤ 10 ^ e = pow-le-pow_right base up in
    let more : 1 * 10 ^ e ≤ c * 10 ^ e = grind arith in
    omega (arith, high, more)

large : (c : ℕ) (e : ℕ) → 1000000 < c → 1000000 < c * 10 ^ e
large c e p =
    let base : 0 < 10 = omega arith in
    let up : 0 ≤ e = omega arith in
    let high : 10 ^ 0 ≤ 10 ^ e = pow-le-pow_right base up in
    let more : c * 1 ≤ c * 10 ^ e = grind arith in
    omega (arith, more)

pub size_of_many_zeros : (negative : Bool) (c : ℕ) (z : ℤ) → (c ≡ 0 → z ≡ pos 0) → pos 6 <ℤ z → None ≡ size_of negative c z
size_of_many_zeros negative zero (pos e) zeros h = let same : pos e ≡ pos 0 = zeros refl in grind arith
size_of_many_zeros negative (suc c) (pos e) zeros h = size_past negative (suc c * 10 ^ e) (many_zeros (suc c) e (omega arith) (search rules))
size_of_many_zeros negative c (negsuc k) zeros h = refl

pub size_of_large : (negative : Bool) (c : ℕ) (z : ℤ) → 1000000 < c → None ≡ size_of negative c z
size_of_large negative c (pos e) h = size_past negative (c * 10 ^ e) (large c e h)
size_of_large negative c (negsuc k) h = refl
