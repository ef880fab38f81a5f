use Rattle.std.proofs.Common.{◌<◌, ◌*◌, ◌+◌, ◌^◌, arith, rules}
use Rattle.json_decimal.proofs.Powers.{digit_fits}
use Rattle.json_decimal.proofs.digits.long_digits_at.Goals as goal

pub overflow_mul-value : goal.overflow_mul-value
overflow_mul-value c =
    let fits : c.loop-digit.value * 10 + 0 < 2 ^ 128 = digit_fits c.loop-digit.value c.loop-digit.count 0 c.loop-digit.invariant.below (omega arith) (omega arith) in search rules

pub overflow_add-value : goal.overflow_add-value
overflow_add-value c =
    let fits : c.loop-digit.value * 10 + c.in-Some.digit < 2 ^ 128 = digit_fits c.loop-digit.value c.loop-digit.count c.in-Some.digit c.loop-digit.invariant.below (omega arith) c.in-Some.ensures.0 in search rules
