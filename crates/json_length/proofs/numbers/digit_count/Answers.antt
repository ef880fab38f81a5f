use Rattle.std.proofs.Common.{ap, sym, ◌∙◌, length, decimal, arith}
use Rattle.json_decimal.proofs.Written.{count_from_power, zero_written}
use Rattle.json_length.proofs.numbers.digit_count.Goals as goal

pub returns-then-value-eq0-clause-count : goal.returns-then-value-eq0-clause-count
returns-then-value-eq0-clause-count c = sym (ap (λ t. length (decimal t)) c.if-value-eq0.true ∙ ap length zero_written)

pub returns-else-value-eq0-clause-count : goal.returns-else-value-eq0-clause-count
returns-else-value-eq0-clause-count c = sym (count_from_power c.args.value c.ilog10.result (omega arith) c.ilog10.ensures.power_le c.ilog10.ensures.next_power_gt)
