use Rattle.std.proofs.Common.{◌≡◌, ◌-◌, ◌≤◌, length}
use Rattle.extend_resolve.specs.Machinery.Links.{AreMarked, IsOpening}
use Rattle.extend_resolve.proofs.closure.closure.Given as goal

abbrev pub invariant-open : goal.invariant-open
invariant-open l = record {
  opening : IsOpening l.links l.start l.found.items l.at;
  marked : AreMarked l.marks l.found.items;
  within : l.at ≤ length l.found.items;
  bound : length l.marks ≡ length l.links;
}

abbrev pub decreases-open : goal.decreases-open
decreases-open l = length l.links - l.at
