use Rattle.std.proofs.Common.{◌≡◌, map, drop}
use Rattle.std.specs.List.{filter_map}
use Rattle.extend_resolve.specs.Machinery.Gathering.{AreNumbered, with_ids, component_id}
use Rattle.extend_resolve.proofs.gathering.add_components.Given as goal

abbrev pub invariant-contents : goal.invariant-contents
invariant-contents l = record {
  numbered : AreNumbered l.numbers.entries (map (λ n. n.now) l.nodes.items);
  nodes : with_ids l.set (map (λ n. n.now) l.nodes.items) (filter_map component_id (drop l.content-index l.node.contents)) ≡ with_ids l.set (map (λ n. n.now) l.fn.nodes.items) (filter_map component_id l.node.contents);
}
