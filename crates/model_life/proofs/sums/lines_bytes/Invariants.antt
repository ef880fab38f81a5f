use Rattle.std.proofs.Common.{◌≡◌, take}
use Rattle.std.specs.List.{sum_by}
use Rattle.model_life.specs.Machinery.Keeping.{line_of, capped}
use Rattle.model_life.proofs.sums.lines_bytes.Given as goal

abbrev pub invariant-interfaces : goal.invariant-interfaces
invariant-interfaces l = l.sum ≡ capped (sum_by (λ i. line_of l.set i.now) (take l.interface-index l.interfaces))
