use Rattle.std.proofs.Common.{ℕ, length, ◌≤◌}
use Rattle.json_read.specs.Machinery.Automaton.{Part}
use Rattle.json_read.specs.Machinery.Spans.{CountsDown, NumberReaches}
use Rattle.json_read.proofs.scan.digits_end.Given as goal

abbrev pub invariant-digits : goal.invariant-digits
invariant-digits l = record {
  forward : l.at ≤ l.end;
  within : l.end ≤ length l.bytes;
  fewer : l.left ≤ l.most;
  reaches : (part : ℕ → Part) → CountsDown part → NumberReaches l.bytes (part l.most) l.at (part l.left) l.end;
}

abbrev pub decreases-digits : goal.decreases-digits
decreases-digits l = l.left
