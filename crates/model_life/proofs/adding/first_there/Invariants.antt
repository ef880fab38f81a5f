use Rattle.std.proofs.Common.{take}
use Rattle.model_life.specs.Machinery.Judging.{AreAbsent}
use Rattle.model_life.proofs.adding.first_there.Given as goal

abbrev pub invariant-new : goal.invariant-new
invariant-new l = AreAbsent l.set (take l.index l.new)
