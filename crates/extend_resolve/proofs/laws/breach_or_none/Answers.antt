use Rattle.extend_resolve.proofs.LeastBreaches.{breach_or_none}
use Rattle.extend_resolve.proofs.laws.breach_or_none.Goals as goal

pub returns : goal.returns
returns c = breach_or_none
