use Rattle.std.proofs.Common.{◌≡◌, ◌<◌, ◌∙◌, ap, sym, pos, arith, rules}
use Rattle.json_decimal.specs.Decimals.{number_of}
use Rattle.query_steps.proofs.Sizes.{size_of_many_zeros, size_of_large}
use Rattle.query_steps.proofs.selecting.top_size.Goals as goal

pub returns-then-number-gt6 : goal.returns-then-number-gt6
returns-then-number-gt6 c =
    let d = c.args.number.now in
    size_of_many_zeros d.negative (number_of d).coefficient d.exponent (λ e. (d.zero e).1) (search rules)

pub returns-then-coefficient-gt1000000 : goal.returns-then-coefficient-gt1000000
returns-then-coefficient-gt1000000 c =
    let d = c.args.number.now in
    let same : c.coefficient-coefficient.result ≡ (number_of d).coefficient = c.coefficient-coefficient.ensures in
    let more = c.if-coefficient-gt1000000.true in
    size_of_large d.negative (number_of d).coefficient d.exponent (omega (arith, same, more))
