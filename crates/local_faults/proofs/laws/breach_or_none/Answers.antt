use Rattle.local_faults.proofs.LeastBreaches.{breach_or_none}
use Rattle.local_faults.proofs.laws.breach_or_none.Goals as goal

pub returns : goal.returns
returns c = breach_or_none
