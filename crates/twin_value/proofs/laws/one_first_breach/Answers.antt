use Rattle.twin_value.specs.Breaches.{IsBodyBreach}
use Rattle.twin_value.proofs.OneBreach.{one_first}
use Rattle.twin_value.proofs.laws.one_first_breach.Goals as goal

pub returns : goal.returns
returns c role v = one_first (IsBodyBreach role v)
