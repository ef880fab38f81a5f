-- Tests on names and words, and the number of a few digits.
use Rattle.std.proofs.Common.{◌≡◌, ℕ, ◌+◌, ◌*◌, ◌^◌, ◌<◌, ◌≤◌, true, arith}
use Rattle.std.specs.Char.{is_ascii_digit, digit_value}
use Rattle.std.proofs.Math.Nat.{pow-le-pow_right}
use Rattle.std.proofs.lemmas.Grind.{pow_more}
use Rattle.std.proofs.lemmas.Bool.Decides.{nat_tests}

-- one more digit makes the number ten times as large at most
pub one_more_digit : (i n d : ℕ) → n < 10 ^ i → d < 10 → n * 10 + d < 10 ^ (i + 1)
one_more_digit i n d small digit = omega (arith, pow_more 10 i)

-- the numbers of up to 18 digits
pub few_digits : (i : ℕ) → i ≤ 18 → 10 ^ i ≤ 10 ^ 18
few_digits i few = pow-le-pow_right {n = 10} (omega arith) few

pub digit_below_ten : (b : ℕ) → is_ascii_digit b ≡ true → (digit_value b < 10) × (digit_value b + 48 ≡ b)
digit_below_ten b digit = grind (arith, nat_tests)
