use Rattle.std.proofs.Common.{◌∙◌, sym, true≢false}
use Rattle.json_decimal.specs.Decimals.{number_of}
use Rattle.json_decimal.proofs.Sizes.{order_positive, order_negative, order_less, order_greater}
use Rattle.json_decimal.proofs.decimal.Decimal.order.Goals as goal

pub returns-in-true-true : goal.returns-in-true-true
returns-in-true-true c = c.order_of_sizes.ensures ∙ order_negative (number_of c.args.self.now) (number_of c.args.other.now) c.in-true-true.is-0 c.in-true-true.is-1

pub returns-in-false-false : goal.returns-in-false-false
returns-in-false-false c = c.order_of_sizes-in-false-false.ensures ∙ order_positive (number_of c.args.self.now) (number_of c.args.other.now) c.in-false-false.is-0 c.in-false-false.is-1

pub returns-in-true-false : goal.returns-in-true-false
returns-in-true-false c = order_less (number_of c.args.self.now) (number_of c.args.other.now) c.in-true-false.is-0 c.in-true-false.is-1 (λ none. true≢false (sym c.in-true-false.is-0 ∙ (c.args.self.now.zero none).0))

pub returns-in-false-true : goal.returns-in-false-true
returns-in-false-true c = order_greater (number_of c.args.self.now) (number_of c.args.other.now) c.in-false-true.is-0 c.in-false-true.is-1 (λ none. true≢false (sym c.in-false-true.is-1 ∙ (c.args.other.now.zero none).0))
