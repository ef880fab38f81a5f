use Rattle.std.proofs.Common.{◌∙◌, ℕ, List, [], ◌∷◌, ◌++◌, Option, Some, ap}
use Rattle.std.specs.Prelude.{codes}
use Rattle.json_tree.specs.Values.{Json, text, object, members_of}
use Rattle.std.specs.Option.{option_map}
use Rattle.dtdl_terms.specs.TermViews.{payload_term}
use Rattle.canon_text.specs.Canonical.{element_parts, payload_value}
use Rattle.canon_text.specs.Objects.{present}
use Rattle.canon_text.proofs.kinds.command.Goals as goal

pub returns : goal.returns
returns c =
    let name : List (List ℕ × Option Json) = (codes "name", Some (text c.args.item.now.name)) ∷ [] in
    let p0 : List (List ℕ × Option Json) = element_parts (Some (text (codes "Command"))) c.args.item.now.common ++ name in
    let e0 = c.in_ok-members.ensures ∙ ap (λ (type : Json). present (element_parts (Some type) c.args.item.now.common ++ name)) c.in_ok-kind.ensures in
    let e1 = c.in_ok-put_payload.ensures p0 e0 in
    let p1 : List (List ℕ × Option Json) = p0 ++ (codes "request", option_map payload_value (option_map payload_term c.args.request.now)) ∷ [] in
    let e2 = c.in_ok-put_payload-2.ensures p1 e1 in
    c.object.ensures ∙ ap (λ (ms : List (List ℕ × Json)). object (members_of ms)) e2
