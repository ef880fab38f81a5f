use Rattle.std.proofs.Common.{◌∙◌, ℕ, List, [], ◌∷◌, ◌++◌, Option, Some, ap}
use Rattle.std.specs.Prelude.{codes}
use Rattle.json_tree.specs.Values.{Json, text, object, members_of}
use Rattle.canon_text.specs.Canonical.{element_parts}
use Rattle.canon_text.specs.Objects.{present}
use Rattle.canon_text.proofs.kinds.component.Goals as goal

pub returns : goal.returns
returns c =
    let name : List (List ℕ × Option Json) = (codes "name", Some (text c.args.item.now.name)) ∷ [] in
    let p0 : List (List ℕ × Option Json) = element_parts (Some (text (codes "Component"))) c.args.item.now.common ++ name in
    let e0 = c.in_ok-members.ensures ∙ ap (λ (type : Json). present (element_parts (Some type) c.args.item.now.common ++ name)) c.in_ok-kind.ensures in
    let e1 = rw c.as_str.ensures.same at c.in_ok-put_text.ensures p0 e0 in
    c.object.ensures ∙ ap (λ (ms : List (List ℕ × Json)). object (members_of ms)) e1
