use Rattle.extend_resolve.proofs.FirstBreaches.{one_first}
use Rattle.extend_resolve.proofs.laws.one_first_breach.Goals as goal

pub returns : goal.returns
returns c = one_first
