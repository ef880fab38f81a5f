use Rattle.std.proofs.Common.{◌∙◌, ℕ, List, [], ◌∷◌, ◌++◌, Option, Some, ap}
use Rattle.std.specs.Prelude.{codes}
use Rattle.std.specs.Option.{option_map}
use Rattle.json_tree.specs.Values.{Json, text, object, members_of}
use Rattle.dtdl_terms.specs.TermViews.{schema_term}
use Rattle.canon_text.specs.Canonical.{element_parts, schema_value, typed, writable_value}
use Rattle.canon_text.proofs.kinds.property.Goals as goal

pub returns : goal.returns
returns c =
    let own : List (List ℕ × Option Json) = (codes "name", Some (text c.args.item.now.name)) ∷ (codes "schema", Some (schema_value (schema_term c.args.kind.now))) ∷ (codes "unit", option_map text c.args.unit.now) ∷ [] in
    let p0 : List (List ℕ × Option Json) = element_parts (Some (typed (codes "Property") c.args.semantic.now)) c.args.item.now.common ++ own in
    let e1 = c.in_ok-put.ensures p0 (writable_value c.args.marked) c.writable.ensures c.in_ok-members.ensures in
    c.object.ensures ∙ ap (λ (ms : List (List ℕ × Json)). object (members_of ms)) e1
