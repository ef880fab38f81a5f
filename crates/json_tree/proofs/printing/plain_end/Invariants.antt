use Rattle.std.proofs.Common.{length, ◌-◌, ◌≤◌}
use Rattle.std.specs.List.{slice_range, AllByRecursion}
use Rattle.json_tree.specs.Machinery.Pieces.{IsPlain}
use Rattle.json_tree.proofs.printing.plain_end.Given as goal

abbrev pub invariant-plain : goal.invariant-plain
invariant-plain l = record {
  forward : l.initial.at ≤ l.end;
  within : l.end ≤ length l.bytes;
  plain : AllByRecursion IsPlain (slice_range l.bytes l.initial.at l.end);
}

abbrev pub decreases-plain : goal.decreases-plain
decreases-plain l = length l.bytes - l.end
