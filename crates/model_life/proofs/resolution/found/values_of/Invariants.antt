use Rattle.std.proofs.Common.{◌≡◌, ◌++◌, length}
use Rattle.std.specs.Map.{values_of}
use Rattle.model_life.proofs.resolution.found.values_of.Given as goal

abbrev pub decreases-values : goal.decreases-values
decreases-values g l = length l.values

abbrev pub invariant-values : goal.invariant-values
invariant-values g l = l.list.items ++ l.values ≡ values_of l.map.entries
