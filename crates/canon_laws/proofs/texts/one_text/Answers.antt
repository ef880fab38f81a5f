use Rattle.canon_laws.proofs.Spelled.{one_text}
use Rattle.canon_laws.proofs.texts.one_text.Goals as goal

pub returns : goal.returns
returns c = one_text c.one_value.ensures
