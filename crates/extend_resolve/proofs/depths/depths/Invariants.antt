use Rattle.std.proofs.Common.{◌≡◌, ℕ, ◌<◌, ◌-◌, ◌≤◌, [], length, take}
use Rattle.extend_resolve.specs.Machinery.Deepening.{IsDeepening, IsTried}
use Rattle.extend_resolve.proofs.depths.depths.Given as goal

abbrev pub invariant-numbers : goal.invariant-numbers
invariant-numbers l = record {
  so_far : IsDeepening l.links l.depths.items l.ended.items;
  tried : (x : ℕ) → x < l.number → IsTried l.links [] l.ended.items x;
}

abbrev pub invariant-ended : goal.invariant-ended
invariant-ended l = record {
  so_far : IsDeepening l.links l.depths.items l.ended.items;
  tried : (x : ℕ) → x < length l.links → IsTried l.links (take l.at l.ended.items) l.ended.items x;
  within : l.at ≤ length l.ended.items;
}

abbrev pub decreases-ended : goal.decreases-ended
decreases-ended l = length l.links - l.at
