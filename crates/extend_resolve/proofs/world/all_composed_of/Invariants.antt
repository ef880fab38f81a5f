use Rattle.std.proofs.Common.{◌≡◌, ◌++◌, map, drop}
use Rattle.std.specs.List.{list_any}
use Rattle.std.specs.Option.{is_some}
use Rattle.extend_resolve.specs.Machinery.Gathering.{component_id}
use Rattle.extend_resolve.proofs.world.all_composed_of.Given as goal

abbrev pub invariant-nodes : goal.invariant-nodes
invariant-nodes l =
    l.composed.items ++ map (λ n. list_any (λ c. is_some (component_id c)) n.now.contents) (drop l.node-index l.nodes)
    ≡ map (λ n. list_any (λ c. is_some (component_id c)) n.now.contents) l.nodes
