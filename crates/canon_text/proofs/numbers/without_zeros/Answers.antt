use Rattle.canon_text.proofs.Zeros.{zeros_step}
use Rattle.canon_text.proofs.numbers.without_zeros.Goals as goal

pub zeros-preserved : goal.zeros-preserved
zeros-preserved c =
    let (most, below, value, some, product, few) = c.zeros.invariant in
    zeros_step c.args.size c.zeros.digits c.zeros.zeros most c.if-digits-eq0.true below value some product c.zeros-test.true
