use Rattle.std.proofs.Common.{map, take}
use Rattle.std.specs.List.{AllZip}
use Rattle.model_life.specs.resolution.Machinery.Families.{IsPartOf}
use Rattle.model_life.proofs.resolution.resolving.copy_parts.Given as goal

abbrev pub invariant-parts : goal.invariant-parts
invariant-parts l = AllZip (IsPartOf l.set) (map (λ i. i.now) (take l.part-index l.parts)) l.copies.items
