use Rattle.std.proofs.Common.{◌≡◌, ◌++◌, map, drop}
use Rattle.model_life.proofs.resolution.resolving.copy_ids.Given as goal

abbrev pub invariant-interfaces : goal.invariant-interfaces
invariant-interfaces l = l.copies.items ++ map (λ i. i.now.id) (drop l.interface-index l.interfaces) ≡ map (λ i. i.now.id) l.interfaces
