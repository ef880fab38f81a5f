use Rattle.std.proofs.Common.{◌<◌, arith, rules}
use Rattle.json_decimal.proofs.Powers.{few_tens, ten_moved}
use Rattle.std.proofs.Common.{◌∙◌}
use Rattle.json_decimal.proofs.digits.without_trailing_zeros_short.Goals as goal

pub overflow_add-zeros : goal.overflow_add-zeros
overflow_add-zeros c =
    let few : c.loop-left.zeros < 20 = few_tens c.loop-left.left c.loop-left.zeros c.args.value 20 c.loop-left.invariant.0 c.loop-left.invariant.1 (omega arith) in search rules

pub loop-left-preserved : goal.loop-left-preserved
loop-left-preserved c = (ten_moved c.loop-left.left c.loop-left.zeros (c.loop-left-test.true) ∙ c.loop-left.invariant.0, omega arith)

pub returns-clause-few : goal.returns-clause-few
returns-clause-few c = few_tens c.loop-left.left c.loop-left.zeros c.args.value 20 c.loop-left.invariant.0 c.loop-left.invariant.1 (omega arith)
