use Rattle.std.proofs.Common.{◌∙◌, ℕ, List, [], ◌∷◌, ◌++◌, Option, Some, None, ap, refl}
use Rattle.std.specs.Prelude.{codes}
use Rattle.json_tree.specs.Values.{Json, object, members_of}
use Rattle.canon_text.specs.Canonical.{element_parts, enum_value}
use Rattle.canon_text.proofs.enums.enum_entry.Goals as goal

pub returns : goal.returns
returns c =
    let p0 : List (List ℕ × Option Json) = element_parts None c.args.entry.now.common in
    let e0 = c.in_ok-members.ensures None refl in
    let e1 = c.in_ok-put.ensures p0 (Some (enum_value c.args.entry.now.value)) (ap Some c.in_ok-value.ensures) e0 in
    let p1 : List (List ℕ × Option Json) = p0 ++ (codes "enumValue", Some (enum_value c.args.entry.now.value)) ∷ [] in
    let e2 = rw c.as_str.ensures.same at c.in_ok-put_text.ensures p1 e1 in
    c.object.ensures ∙ ap (λ (ms : List (List ℕ × Json)). object (members_of ms)) e2
