use Rattle.std.proofs.Common.{ℕ, List, [], ◌∷◌, Option, Some, refl, sym, ◌∙◌}
use Rattle.std.specs.Prelude.{codes}
use Rattle.std.specs.Option.{option_map}
use Rattle.json_tree.specs.Values.{Json, text}
use Rattle.dtdl_terms.specs.TermViews.{payload_term}
use Rattle.canon_text.specs.Canonical.{payload_value}
use Rattle.canon_print.proofs.Parts.{parts_ended}
use Rattle.canon_print.proofs.kinds.push_command.Goals as goal

pub returns : goal.returns
returns c =
    let response : List (List ℕ × Option Json) = (codes "response", option_map payload_value (option_map payload_term c.args.response.now)) ∷ [] in
    let rest : List (List ℕ × Option Json) = (codes "request", option_map payload_value (option_map payload_term c.args.request.now)) ∷ response in
    c.in_ok-push_str.ensures.bytes ∙ sym (
    c.in_ok-first.ensures (text (codes "Command")) refl ((codes "name", Some (text c.args.item.now.name)) ∷ rest)
    ∙ c.in_ok-push_name.ensures (codes "name") refl rest
    ∙ c.in_ok-first-2.ensures (codes "request") refl response
    ∙ c.in_ok-push_optional_payload.ensures (codes "response") refl []
    ∙ parts_ended _ _)
