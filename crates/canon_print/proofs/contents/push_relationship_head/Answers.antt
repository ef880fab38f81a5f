use Rattle.std.proofs.Common.{ℕ, List, ◌∷◌, Option, Some, refl, ◌∙◌}
use Rattle.std.specs.Prelude.{codes}
use Rattle.std.specs.Option.{option_map}
use Rattle.json_tree.specs.Values.{Json, text}
use Rattle.canon_text.specs.Canonical.{most_value}
use Rattle.canon_print.proofs.contents.push_relationship_head.Goals as goal

pub returns : goal.returns
returns c = λ own.
    let name : List (List ℕ × Option Json) = (codes "name", Some (text c.args.name.now)) ∷ own in
    c.in_ok-first.ensures (text (codes "Relationship")) refl ((codes "maxMultiplicity", option_map most_value c.args.most) ∷ name)
    ∙ c.in_ok-first-2.ensures name
    ∙ c.in_ok-push_name.ensures (codes "name") refl own
