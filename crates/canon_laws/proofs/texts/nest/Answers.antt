use Rattle.canon_laws.proofs.Nests.{set_nests}
use Rattle.canon_laws.proofs.texts.nest.Goals as goal

pub returns : goal.returns
returns c = set_nests
