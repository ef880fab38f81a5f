use Rattle.std.proofs.Common.{◌≡◌, ◌+◌, ◌-◌, ◌≤◌, map, length}
use Rattle.extend_resolve.specs.Machinery.Gathering.{AreNumbered, IsGathered}
use Rattle.extend_resolve.proofs.gathering.gather.Given as goal

abbrev pub invariant-open : goal.invariant-open
invariant-open l = record {
  numbered : AreNumbered l.numbers.entries (map (λ n. n.now) l.nodes.items);
  gathered : IsGathered l.set (map (λ u. u.interface) l.new) (map (λ n. n.now) l.nodes.items) l.at;
  within : l.at ≤ length l.nodes.items;
}

abbrev pub decreases-open : goal.decreases-open
decreases-open l = length l.new + length l.set - l.at
