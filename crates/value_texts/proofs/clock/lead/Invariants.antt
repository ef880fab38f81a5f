use Rattle.std.proofs.Common.{◌≡◌, ◌+◌, ◌-◌, ◌≤◌, length, drop}
use Rattle.value_texts.specs.Machinery.Reading.{leading_digits}
use Rattle.value_texts.proofs.clock.lead.Given as goal

abbrev pub invariant-digits : goal.invariant-digits
invariant-digits l = (l.count ≤ length l.bytes) × (l.count + leading_digits (drop l.count l.bytes) ≡ leading_digits l.bytes)

abbrev pub decreases-digits : goal.decreases-digits
decreases-digits l = length l.bytes - l.count
