use Rattle.local_faults.proofs.OneBreach.{one_breach}
use Rattle.local_faults.proofs.laws.one_first_breach.Goals as goal

pub returns : goal.returns
returns c = one_breach
