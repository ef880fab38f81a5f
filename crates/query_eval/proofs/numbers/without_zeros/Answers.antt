use Rattle.std.proofs.Common.{◌≡◌, ◌≢◌, ◌%◌, ◌<◌, ◌^◌, ◌*◌, sym, ◌∙◌, arith}
use Rattle.canon_text.proofs.Zeros.{none_off}
use Rattle.query_eval.proofs.Zeros.{zero_less, no_zero}
use Rattle.query_eval.proofs.numbers.without_zeros.Goals as goal

pub zeros-preserved : goal.zeros-preserved
zeros-preserved c =
    let (most, below, value, some, product, few) = c.zeros.invariant in
    let (x, low, same, more, all) = zero_less c.args.size c.zeros.digits c.zeros.zeros most c.if-digits-eq0.true below value some product in
    (x, low, same, more, all, omega arith)

-- where so many zeros were taken off, one digit is left
pub returns-after-zeros-clause-value : goal.returns-after-zeros-clause-value
returns-after-zeros-clause-value c =
    let (most, below, value, some, product, few) = c.zeros.invariant in
    let all : c.zeros.zeros ≡ 19 = omega arith in
    sym (none_off most c.zeros.digits c.zeros.zeros (no_zero c.args.size c.zeros.digits c.zeros.zeros all some product (omega arith))) ∙ value
