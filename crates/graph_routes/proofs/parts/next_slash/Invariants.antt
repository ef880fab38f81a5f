use Rattle.std.proofs.Common.{length, ◌-◌, ◌≡◌, ◌≤◌, ◌==◌, ◌+◌, drop}
use Rattle.std.specs.List.{position_or_len}
use Rattle.graph_routes.proofs.parts.next_slash.Given as goal

abbrev pub invariant-bytes : goal.invariant-bytes
invariant-bytes l = record {
  within : l.at ≤ length l.bytes;
  same : l.at + position_or_len (λ b. b == 47) (drop l.at l.bytes) ≡ l.initial.at + position_or_len (λ b. b == 47) (drop l.initial.at l.bytes);
}

abbrev pub decreases-bytes : goal.decreases-bytes
decreases-bytes l = length l.bytes - l.at
