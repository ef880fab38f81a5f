use Rattle.std.proofs.Common.{◌∙◌, ℕ, List, [], ◌∷◌, ◌++◌, Option, Some, ap, refl}
use Rattle.std.specs.Prelude.{codes}
use Rattle.json_tree.specs.Values.{Json, text, object, members_of}
use Rattle.json_tree.specs.View.{view}
use Rattle.canon_text.specs.Canonical.{element_parts}
use Rattle.canon_text.proofs.schemas.map_schema.Goals as goal

pub returns : goal.returns
returns c =
    let p0 : List (List ℕ × Option Json) = element_parts (Some (text (codes "Map"))) c.args.common.now in
    let e0 = c.in_ok-members.ensures in
    let e1 = c.in_ok-put.ensures p0 (Some (view c.args.key)) (refl) e0 in
    let p1 : List (List ℕ × Option Json) = p0 ++ (codes "mapKey", Some (view c.args.key)) ∷ [] in
    let e2 = c.in_ok-put-2.ensures p1 (Some (view c.args.value)) (refl) e1 in
    c.object.ensures ∙ ap (λ (ms : List (List ℕ × Json)). object (members_of ms)) e2
