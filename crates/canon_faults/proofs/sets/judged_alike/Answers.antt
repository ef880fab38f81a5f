use Rattle.canon_faults.proofs.Judged.{sound_alike}
use Rattle.canon_faults.proofs.sets.judged_alike.Goals as goal

pub returns : goal.returns
returns c = sound_alike
