use Rattle.std.proofs.Common.{◌<◌, ◌*◌, ◌^◌, ◌-◌, arith, rules}
use Rattle.json_decimal.proofs.Sizes.{aligned_fits, power_fits}
use Rattle.json_decimal.proofs.order.order_of_digits.Goals as goal

pub pow-requires : goal.pow-requires
pow-requires c = let few = c.requires.few_b in power_fits _ (omega arith)

pub pow-requires-else-count_a-count_b : goal.pow-requires-else-count_a-count_b
pow-requires-else-count_a-count_b c = let few = c.requires.few_a in power_fits _ (omega arith)

pub overflow_mul-a : goal.overflow_mul-a
overflow_mul-a c =
    let less = c.if-count_a-count_b.true in
    let whole : c.args.a * 10 ^ (c.args.count_b - c.args.count_a) < 2 ^ 128 = aligned_fits c.args.a c.args.count_a c.args.count_b c.requires.a (omega arith) c.requires.few_b in
    let fits : c.args.a * c.pow.result < 2 ^ 128 = rw c.pow.ensures whole in search rules

pub overflow_mul-b : goal.overflow_mul-b
overflow_mul-b c =
    let less = c.if-count_a-count_b.false in
    let whole : c.args.b * 10 ^ (c.args.count_a - c.args.count_b) < 2 ^ 128 = aligned_fits c.args.b c.args.count_b c.args.count_a c.requires.b (omega arith) c.requires.few_a in
    let fits : c.args.b * c.pow-else-count_a-count_b.result < 2 ^ 128 = rw c.pow-else-count_a-count_b.ensures whole in search rules
