use Rattle.std.proofs.Common.{[], ◌∷◌, refl, sym, ◌∙◌}
use Rattle.std.specs.Prelude.{codes}
use Rattle.canon_text.specs.Canonical.{writable_value}
use Rattle.canon_print.proofs.Parts.{parts_ended}
use Rattle.canon_print.proofs.kinds.push_property.Goals as goal

pub returns : goal.returns
returns c = c.in_ok-push_str.ensures.bytes ∙ sym (
    c.in_ok-first.ensures (codes "Property") refl ((codes "writable", writable_value c.args.writable) ∷ [])
    ∙ c.in_ok-push_writable.ensures []
    ∙ parts_ended _ _)
