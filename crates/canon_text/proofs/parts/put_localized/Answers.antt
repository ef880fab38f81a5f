use Rattle.canon_text.specs.Canonical.{localized_value}
use Rattle.canon_text.proofs.parts.put_localized.Goals as goal

pub returns : goal.returns
returns c = λ parts same. c.in_ok-put.ensures parts (localized_value c.args.content.now) c.in_ok-value.ensures same
