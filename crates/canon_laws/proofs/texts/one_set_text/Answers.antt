use Rattle.canon_laws.proofs.Spelled.{one_set_text}
use Rattle.canon_laws.proofs.texts.one_set_text.Goals as goal

pub returns : goal.returns
returns c = one_set_text c.one_value.ensures
