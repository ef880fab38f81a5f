use Rattle.std.proofs.Common.{◌≡◌, ◌++◌, map, drop}
use Rattle.model_life.specs.resolution.Machinery.Families.{schemas_of}
use Rattle.model_life.proofs.resolution.resolving.copy_named.Given as goal

abbrev pub invariant-interfaces : goal.invariant-interfaces
invariant-interfaces l = l.copies.items ++ map (λ i. schemas_of i.now) (drop l.interface-index l.interfaces) ≡ map (λ i. schemas_of i.now) l.interfaces
