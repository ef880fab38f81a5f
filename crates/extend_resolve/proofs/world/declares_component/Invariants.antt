use Rattle.std.proofs.Common.{◌≡◌, drop}
use Rattle.std.specs.List.{list_any}
use Rattle.std.specs.Option.{is_some}
use Rattle.extend_resolve.specs.Machinery.Gathering.{component_id}
use Rattle.extend_resolve.proofs.world.declares_component.Given as goal

abbrev pub invariant-contents : goal.invariant-contents
invariant-contents l = list_any (λ c. is_some (component_id c)) l.node.contents ≡ list_any (λ c. is_some (component_id c)) (drop l.content-index l.node.contents)
