use Rattle.canon_faults.proofs.Nowhere.{no_breach}
use Rattle.canon_faults.proofs.laws.break_nothing.Goals as goal

pub returns : goal.returns
returns c = no_breach
