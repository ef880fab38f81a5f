use Rattle.canon_laws.proofs.Spelled.{same_bytes}
use Rattle.canon_laws.proofs.texts.same_bytes.Goals as goal

pub returns : goal.returns
returns c = same_bytes c.one_value.ensures
