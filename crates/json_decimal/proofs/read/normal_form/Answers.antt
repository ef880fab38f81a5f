use Rattle.std.proofs.Common.{◌+ℤ◌, ◌<ℤ◌, pos, neg_ℤ, refl, inl, inr, arith}
use Rattle.std.proofs.lemmas.Int.{ints}
use Rattle.json_decimal.proofs.read.normal_form.Goals as goal

pub returns-then-exponent-ltminus900 : goal.returns-then-exponent-ltminus900
returns-then-exponent-ltminus900 c =
    let zeros = c.without_trailing_zeros-coefficient.result.1 in
    let few = c.without_trailing_zeros-coefficient.ensures.few in
    let under = c.if-exponent-ltminus900.true in
    let out : (c.args.scanned.scale +ℤ pos zeros) <ℤ neg_ℤ (pos 900) = omega (arith, ints) in (
      record { negative = c.args.scanned.negative; coefficient = c.without_trailing_zeros-coefficient.result.0; exponent = c.args.scanned.scale +ℤ pos zeros },
      record { zero = λ e. absurd (c.if-value-eq0.false e); other = λ some. record { sign = refl; trimmed = c.without_trailing_zeros-coefficient.ensures.trimmed; zeros = zeros; digits = c.without_trailing_zeros-coefficient.ensures.value; exponent = refl } },
      inl out,
    )

pub returns-then-exponent-gt900 : goal.returns-then-exponent-gt900
returns-then-exponent-gt900 c =
    let zeros = c.without_trailing_zeros-coefficient.result.1 in
    let few = c.without_trailing_zeros-coefficient.ensures.few in
    let over = c.if-exponent-gt900.true in
    let out : pos 900 <ℤ (c.args.scanned.scale +ℤ pos zeros) = omega (arith, ints) in (
      record { negative = c.args.scanned.negative; coefficient = c.without_trailing_zeros-coefficient.result.0; exponent = c.args.scanned.scale +ℤ pos zeros },
      record { zero = λ e. absurd (c.if-value-eq0.false e); other = λ some. record { sign = refl; trimmed = c.without_trailing_zeros-coefficient.ensures.trimmed; zeros = zeros; digits = c.without_trailing_zeros-coefficient.ensures.value; exponent = refl } },
      inr out,
    )
