use Rattle.std.proofs.Common.{ℕ, List, [], ◌∷◌, ◌++◌, Option, ap, map}
use Rattle.std.specs.Prelude.{codes}
use Rattle.std.specs.Option.{option_map}
use Rattle.json_tree.specs.Values.{Json, text}
use Rattle.json_tree.specs.View.{member_view}
use Rattle.canon_text.specs.Canonical.{id_value, localized_value}
use Rattle.canon_text.proofs.parts.element.Goals as goal

pub returns : goal.returns
returns c = λ type same.
    let p1 : List (List ℕ × Option Json) = (codes "@id", option_map id_value c.args.common.now.id) ∷ [] in
    let p2 : List (List ℕ × Option Json) = p1 ++ (codes "@type", type) ∷ [] in
    let p3 : List (List ℕ × Option Json) = p2 ++ (codes "comment", option_map text c.args.common.now.comment) ∷ [] in
    let p4 : List (List ℕ × Option Json) = p3 ++ (codes "description", localized_value c.args.common.now.description) ∷ [] in
    let e1 = c.in_ok-put_optional_id.ensures [] (ap (map member_view) c.in_ok-members.ensures.items) in
    let e2 = c.in_ok-put.ensures p1 type same e1 in
    let e3 = c.in_ok-put_optional_text.ensures p2 e2 in
    let e4 = c.in_ok-put_localized.ensures p3 e3 in
    c.in_ok-put_localized-2.ensures p4 e4
