use Rattle.std.proofs.Common.{ℕ, List, [], ◌∷◌, ◌++◌, Option, Some, ap, ◌∙◌}
use Rattle.std.specs.Prelude.{codes}
use Rattle.json_tree.specs.Values.{Json, text}
use Rattle.dtdl_terms.specs.TermViews.{schema_term}
use Rattle.canon_text.specs.Objects.{present}
use Rattle.canon_text.specs.Canonical.{element_parts, schema_value, typed}
use Rattle.canon_text.proofs.kinds.measured.Goals as goal

pub returns : goal.returns
returns c =
    let name : List (List ℕ × Option Json) = (codes "name", Some (text c.args.item.now.name)) ∷ [] in
    let p0 : List (List ℕ × Option Json) = element_parts (Some (typed c.args.kind.now c.args.semantic.now)) c.args.item.now.common ++ name in
    let e0 = c.in_ok-members.ensures ∙ ap (λ (type : Json). present (element_parts (Some type) c.args.item.now.common ++ name)) c.in_ok-kind.ensures in
    let e1 = c.in_ok-put.ensures p0 (Some (schema_value (schema_term c.args.of.now))) (ap Some c.in_ok-of.ensures) e0 in
    let p1 : List (List ℕ × Option Json) = p0 ++ (codes "schema", Some (schema_value (schema_term c.args.of.now))) ∷ [] in
    c.in_ok-put_optional_name.ensures p1 e1
