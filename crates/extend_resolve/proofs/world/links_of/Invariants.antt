use Rattle.std.proofs.Common.{◌≡◌, ◌++◌, drop}
use Rattle.std.specs.List.{filter_map}
use Rattle.extend_resolve.specs.Machinery.Numbers.{kept_at}
use Rattle.extend_resolve.proofs.world.links_of.Given as goal

abbrev pub invariant-parents : goal.invariant-parents
invariant-parents l = l.links.items ++ filter_map (λ p. kept_at p l.numbers.entries) (drop l.parent-index l.node.parents) ≡ filter_map (λ p. kept_at p l.numbers.entries) l.node.parents
