use Rattle.std.proofs.Common.{ℕ, List, ◌∷◌, Option, refl, ◌∙◌}
use Rattle.std.specs.Prelude.{codes}
use Rattle.json_tree.specs.Values.{Json}
use Rattle.canon_text.specs.Canonical.{localized_value}
use Rattle.canon_print.proofs.elements.push_remarks.Goals as goal

pub returns : goal.returns
returns c = λ own.
    let display_name : List ℕ × Option Json = (codes "displayName", localized_value c.args.common.now.display_name) in
    let description : List ℕ × Option Json = (codes "description", localized_value c.args.common.now.description) in
    c.in_ok-first.ensures (codes "comment") refl (description ∷ display_name ∷ own)
    ∙ c.in_ok-first-2.ensures (codes "description") refl (display_name ∷ own)
    ∙ c.in_ok-first-3.ensures (codes "displayName") refl own
