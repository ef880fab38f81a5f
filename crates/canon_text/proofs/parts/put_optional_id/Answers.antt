use Rattle.std.specs.Option.{option_map}
use Rattle.canon_text.specs.Canonical.{id_value}
use Rattle.canon_text.proofs.parts.put_optional_id.Goals as goal

pub returns : goal.returns
returns c = λ parts same. c.in_ok-put.ensures parts (option_map id_value c.args.id.now) c.in_ok-value.ensures same
