use Rattle.twin_value.specs.Breaches.{IsLinkBreach}
use Rattle.twin_value.proofs.OneBreach.{one_first}
use Rattle.twin_value.proofs.laws.one_first_link_breach.Goals as goal

pub returns : goal.returns
returns c r v = one_first (IsLinkBreach r v)
