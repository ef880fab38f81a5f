use Rattle.std.proofs.Common.{◌≡◌, ◌+◌, ◌^◌, ◌<◌, ◌≤◌, length}
use Rattle.json_decimal.specs.Literal.{value_after}
use Rattle.json_decimal.specs.Machinery.Digits.{digits_at_front, after}
use Rattle.json_decimal.proofs.digits.long_digits_at.Given as goal

abbrev pub invariant-loop-digit : goal.invariant-loop-digit
invariant-loop-digit l = record {
  value : value_after l.value (digits_at_front l.rest) ≡ value_after l.fn.value (digits_at_front l.fn.bytes);
  count : l.count + length (digits_at_front l.rest) ≡ l.fn.count + length (digits_at_front l.fn.bytes);
  rest : after l.rest ≡ after l.fn.bytes;
  few : l.count ≤ 38;
  below : l.value < 10 ^ l.count;
}

abbrev pub decreases-loop-digit : goal.decreases-loop-digit
decreases-loop-digit l = length l.rest
