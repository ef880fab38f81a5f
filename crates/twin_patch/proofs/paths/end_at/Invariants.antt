use Rattle.std.proofs.Common.{◌≡◌, length, ◌-◌, ◌≤◌}
use Rattle.std.specs.List.{slice_range, AllByRecursion}
use Rattle.twin_patch.proofs.paths.end_at.Given as goal

abbrev pub invariant-others : goal.invariant-others
invariant-others l = record {
  forward : l.initial.at ≤ l.end;
  within : l.end ≤ length l.bytes;
  others : AllByRecursion (λ b. b ≡ l.stop → ⊥) (slice_range l.bytes l.initial.at l.end);
}

abbrev pub decreases-others : goal.decreases-others
decreases-others l = length l.bytes - l.end
