use Rattle.std.specs.Option.{option_map}
use Rattle.dtdl_terms.specs.TermViews.{payload_term}
use Rattle.canon_text.specs.Canonical.{payload_value}
use Rattle.canon_text.proofs.kinds.put_payload.Goals as goal

pub returns : goal.returns
returns c = λ parts same. c.in_ok-put.ensures parts (option_map payload_value (option_map payload_term c.args.value.now)) c.in_ok-value.ensures same
