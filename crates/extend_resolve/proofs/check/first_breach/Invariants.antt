use Rattle.std.proofs.Common.{◌≡◌, ℕ, ◌<◌}
use Rattle.extend_resolve.specs.Breaches.{Breach, IsSetBreach}
use Rattle.extend_resolve.specs.Machinery.Judges.{IsReady}
use Rattle.extend_resolve.proofs.check.first_breach.Given as goal

-- none was found so far
abbrev pub invariant-new : goal.invariant-new
invariant-new l = record {
  ready : IsReady l.judge l.scratch l.index;
  sound : (b : Breach) → b.index < l.index → IsSetBreach l.set l.new b → ⊥;
}
