use Rattle.std.proofs.Common.{◌≡◌, ◌++◌, map, drop}
use Rattle.extend_resolve.specs.Machinery.Gathering.{AreNumbered}
use Rattle.extend_resolve.proofs.gathering.put_new.Given as goal

abbrev pub invariant-new : goal.invariant-new
invariant-new l = record {
  numbered : AreNumbered l.numbers.entries (map (λ n. n.now) l.nodes.items);
  nodes : map (λ n. n.now) l.nodes.items ++ map (λ u. u.interface) (drop l.uploaded-index l.new) ≡ map (λ n. n.now) l.fn.nodes.items ++ map (λ u. u.interface) l.new;
}
