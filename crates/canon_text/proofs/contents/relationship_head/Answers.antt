use Rattle.std.proofs.Common.{ℕ, List, [], ◌∷◌, ◌++◌, Option, Some}
use Rattle.std.specs.Prelude.{codes}
use Rattle.std.specs.Option.{option_map}
use Rattle.json_tree.specs.Values.{Json, text}
use Rattle.canon_text.specs.Canonical.{element_parts, most_value}
use Rattle.canon_text.proofs.contents.relationship_head.Goals as goal

pub returns : goal.returns
returns c =
    let p0 : List (List ℕ × Option Json) = element_parts (Some (text (codes "Relationship"))) c.args.common.now in
    let e1 = c.in_ok-put.ensures p0 (option_map most_value c.args.bound) c.most.ensures c.in_ok-members.ensures in
    let p1 : List (List ℕ × Option Json) = p0 ++ (codes "maxMultiplicity", option_map most_value c.args.bound) ∷ [] in
    c.in_ok-put_text.ensures p1 e1
