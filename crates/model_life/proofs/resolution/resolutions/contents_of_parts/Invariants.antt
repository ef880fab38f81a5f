use Rattle.std.proofs.Common.{◌≡◌, ◌-◌, ◌^◌, min, length, take}
use Rattle.std.specs.List.{sum_by}
use Rattle.model_life.proofs.resolution.resolutions.contents_of_parts.Given as goal

abbrev pub invariant-parts : goal.invariant-parts
invariant-parts l = l.sum ≡ min (sum_by (λ part. length part.contents) (take l.part-index l.parts)) (2 ^ 64 - 1)
