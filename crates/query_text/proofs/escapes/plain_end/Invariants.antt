use Rattle.std.proofs.Common.{length, ◌-◌, ◌≤◌}
use Rattle.std.specs.List.{slice_range, AllByRecursion}
use Rattle.query_text.specs.Machinery.Parts.{IsPlainInQuery}
use Rattle.query_text.proofs.escapes.plain_end.Given as goal

abbrev pub invariant-plain : goal.invariant-plain
invariant-plain l = record {
  forward : l.initial.at ≤ l.end;
  within : l.end ≤ length l.bytes;
  plain : AllByRecursion IsPlainInQuery (slice_range l.bytes l.initial.at l.end);
}

abbrev pub decreases-plain : goal.decreases-plain
decreases-plain l = length l.bytes - l.end
