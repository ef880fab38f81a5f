use Rattle.std.proofs.Common.{length, ◌-◌, ◌≤◌}
use Rattle.std.specs.List.{slice_range, AllByRecursion}
use Rattle.json_tree.specs.Machinery.Tokens.{IsBare}
use Rattle.json_tree.proofs.pointers.bare_end.Given as goal

abbrev pub invariant-bare : goal.invariant-bare
invariant-bare l = record {
  forward : l.initial.at ≤ l.end;
  within : l.end ≤ length l.bytes;
  bare : AllByRecursion IsBare (slice_range l.bytes l.initial.at l.end);
}

abbrev pub decreases-bare : goal.decreases-bare
decreases-bare l = length l.bytes - l.end
