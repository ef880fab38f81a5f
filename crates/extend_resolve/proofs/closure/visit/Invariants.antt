use Rattle.std.proofs.Common.{◌≡◌, length, drop}
use Rattle.extend_resolve.specs.Machinery.Links.{add_new, AreMarked}
use Rattle.extend_resolve.proofs.closure.visit.Given as goal

abbrev pub invariant-links : goal.invariant-links
invariant-links l = record {
  marked : AreMarked l.marks l.found.items;
  found : add_new l.fn.found.items l.links ≡ add_new l.found.items (drop l.link-index l.links);
  bound : length l.marks ≡ length l.fn.marks;
}
