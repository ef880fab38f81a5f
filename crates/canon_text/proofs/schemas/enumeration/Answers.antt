use Rattle.std.proofs.Common.{◌∙◌, ℕ, List, [], ◌∷◌, ◌++◌, Option, Some, ap}
use Rattle.std.specs.Prelude.{codes}
use Rattle.json_tree.specs.Values.{Json, text, object, members_of}
use Rattle.canon_text.specs.Objects.{list_in_order}
use Rattle.canon_text.specs.Canonical.{element_parts, enum_entry_pair, value_schema_json}
use Rattle.std.proofs.Common.{map}
use Rattle.canon_text.proofs.schemas.enumeration.Goals as goal

pub returns : goal.returns
returns c =
    let p0 : List (List ℕ × Option Json) = element_parts (Some (text (codes "Enum"))) c.args.common.now in
    let e0 = c.in_ok-members.ensures in
    let e1 = c.in_ok-put.ensures p0 (Some (list_in_order (map enum_entry_pair c.args.values.now))) (ap Some c.in_ok-values.ensures) e0 in
    let p1 : List (List ℕ × Option Json) = p0 ++ (codes "enumValues", Some (list_in_order (map enum_entry_pair c.args.values.now))) ∷ [] in
    let e2 = c.in_ok-put-2.ensures p1 (Some (value_schema_json c.args.of_text)) (ap Some c.in_ok-kind.ensures) e1 in
    c.object.ensures ∙ ap (λ (ms : List (List ℕ × Json)). object (members_of ms)) e2
