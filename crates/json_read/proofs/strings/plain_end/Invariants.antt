use Rattle.std.proofs.Common.{length, ◌-◌, ◌≤◌}
use Rattle.std.specs.List.{slice_range, AllByRecursion}
use Rattle.json_tree.specs.Grammar.{IsPlainByte}
use Rattle.json_read.proofs.strings.plain_end.Given as goal

abbrev pub invariant-fours : goal.invariant-fours
invariant-fours l = record {
  forward : l.initial.at ≤ l.at;
  within : l.at ≤ length l.bytes;
  plain : AllByRecursion IsPlainByte (slice_range l.bytes l.initial.at l.at);
}

abbrev pub decreases-fours : goal.decreases-fours
decreases-fours l = length l.bytes - l.at
