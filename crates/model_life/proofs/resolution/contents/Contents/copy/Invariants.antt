use Rattle.std.proofs.Common.{◌≡◌, ◌++◌, map}
use Rattle.model_life.specs.resolution.Machinery.Families.{declared_by}
use Rattle.model_life.proofs.resolution.contents.Contents.copy.Given as goal

abbrev pub invariant-contents : goal.invariant-contents
invariant-contents l = l.copies.items ++ map (λ d. declared_by d.0.now d.1.now) l.declared-iterator ≡ l.self
