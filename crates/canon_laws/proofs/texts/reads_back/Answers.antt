use Rattle.canon_laws.proofs.Spelled.{set_spelled}
use Rattle.canon_laws.proofs.texts.reads_back.Goals as goal

pub returns : goal.returns
returns c = set_spelled
