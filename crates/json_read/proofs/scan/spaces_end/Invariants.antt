use Rattle.std.proofs.Common.{length, ◌-◌, ◌≡◌, ◌≤◌, Some}
use Rattle.json_read.specs.Machinery.Automaton.{State, step, reading}
use Rattle.json_read.proofs.scan.spaces_end.Given as goal

abbrev pub invariant-spaces : goal.invariant-spaces
invariant-spaces l = record {
  forward : l.initial.at ≤ l.at;
  within : l.at ≤ length l.bytes;
  same : (s : State) → step s 32 ≡ Some s → step s 9 ≡ Some s → step s 10 ≡ Some s → step s 13 ≡ Some s
      → reading l.bytes s l.initial.at ≡ reading l.bytes s l.at;
}

abbrev pub decreases-spaces : goal.decreases-spaces
decreases-spaces l = length l.bytes - l.at
