use Rattle.std.proofs.Common.{◌≡◌, ◌++◌, map, drop}
use Rattle.std.specs.List.{filter_map}
use Rattle.extend_resolve.specs.Machinery.Numbers.{kept_at}
use Rattle.extend_resolve.proofs.world.all_links_of.Given as goal

abbrev pub invariant-nodes : goal.invariant-nodes
invariant-nodes l =
    l.links.items ++ map (λ n. filter_map (λ p. kept_at p l.numbers.entries) n.now.parents) (drop l.node-index l.nodes)
    ≡ map (λ n. filter_map (λ p. kept_at p l.numbers.entries) n.now.parents) l.nodes
