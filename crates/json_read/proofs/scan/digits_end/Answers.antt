use Rattle.std.proofs.Common.{◌<◌, ◌≤◌, length, get_or, arith}
use Rattle.json_read.proofs.Slices.{told}
use Rattle.json_read.proofs.NumberSpans.{digit_more}
use Rattle.json_read.proofs.scan.digits_end.Goals as goal

pub digits-preserved : goal.digits-preserved
digits-preserved c =
    let digit = told c.is_digit.result _ c.is_digit.ensures c.if-is_digit.true in
    let low : 48 ≤ get_or c.args.bytes.now c.digits.end 0 = rw (← c.byte_at.ensures.value) digit.0 in
    let high : get_or c.args.bytes.now c.digits.end 0 ≤ 57 = rw (← c.byte_at.ensures.value) digit.1 in
    let left = c.digits-test.true in
    let within : c.digits.end < length c.args.bytes.now = c.byte_at.ensures.within (omega arith) in
    let fewer = c.digits.invariant.fewer in
    let forward = c.digits.invariant.forward in
    record {
      forward = omega arith;
      within = omega arith;
      fewer = omega arith;
      reaches = λ part counts. digit_more c.args.bytes.now part (part c.args.most) c.args.at c.digits.end c.digits.left counts
          (c.digits.invariant.reaches part counts) left within low high;
    }
