use Rattle.std.proofs.Common.{◌<◌, ◌∙◌, arith, rules}
use Rattle.json_decimal.proofs.Powers.{some_from_last, few_tens, ten_moved, tens_joined}
use Rattle.json_decimal.proofs.digits.without_trailing_zeros.Goals as goal

pub overflow_add-zeros : goal.overflow_add-zeros
overflow_add-zeros c =
    let few : c.loop-left.zeros < 38 = few_tens c.loop-left.left c.loop-left.zeros c.args.value 38 c.loop-left.invariant.0 c.loop-left.invariant.1 c.requires.below in search rules

pub loop-left-preserved : goal.loop-left-preserved
loop-left-preserved c = (ten_moved c.loop-left.left c.loop-left.zeros c.if-left-eq0.true ∙ c.loop-left.invariant.0, omega arith)

pub returns-then-left-clause-few : goal.returns-then-left-clause-few
returns-then-left-clause-few c = few_tens c.loop-left.left c.loop-left.zeros c.args.value 38 c.loop-left.invariant.0 c.loop-left.invariant.1 c.requires.below

pub overflow_add-result : goal.overflow_add-result
overflow_add-result c =
    let few : c.loop-left.zeros < 38 = few_tens c.loop-left.left c.loop-left.zeros c.args.value 38 c.loop-left.invariant.0 c.loop-left.invariant.1 c.requires.below in search rules

pub returns-clause-value : goal.returns-clause-value
returns-clause-value c = tens_joined _ c.loop-left.left c.loop-left.zeros _ c.args.value c.without_trailing_zeros_short-left.ensures.value c.loop-left.invariant.0

pub returns-clause-few : goal.returns-clause-few
returns-clause-few c =
    let less = c.without_trailing_zeros_short-left.result.0 in
    let some : 0 < less = some_from_last less c.without_trailing_zeros_short-left.ensures.trimmed in
    few_tens less _ c.args.value 38 (tens_joined _ c.loop-left.left c.loop-left.zeros _ c.args.value c.without_trailing_zeros_short-left.ensures.value c.loop-left.invariant.0) some c.requires.below
