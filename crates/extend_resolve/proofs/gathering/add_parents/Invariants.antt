use Rattle.std.proofs.Common.{◌≡◌, map, drop}
use Rattle.extend_resolve.specs.Machinery.Gathering.{AreNumbered, with_ids}
use Rattle.extend_resolve.proofs.gathering.add_parents.Given as goal

abbrev pub invariant-parents : goal.invariant-parents
invariant-parents l = record {
  numbered : AreNumbered l.numbers.entries (map (λ n. n.now) l.nodes.items);
  nodes : with_ids l.set (map (λ n. n.now) l.nodes.items) (drop l.parent-index l.node.parents) ≡ with_ids l.set (map (λ n. n.now) l.fn.nodes.items) l.node.parents;
}
