use Rattle.std.proofs.Common.{◌∷◌, refl, ◌∙◌}
use Rattle.std.specs.Prelude.{codes}
use Rattle.std.specs.Option.{option_map}
use Rattle.canon_text.specs.Canonical.{id_value}
use Rattle.canon_print.proofs.Parts.{object_begun}
use Rattle.canon_print.proofs.elements.push_start.Goals as goal

pub returns : goal.returns
returns c = λ own.
    object_begun _ _ ((codes "@id", option_map id_value c.args.common.now.id) ∷ own) c.in_ok-push_str.ensures.bytes
    ∙ c.in_ok-first.ensures (codes "@id") refl own
