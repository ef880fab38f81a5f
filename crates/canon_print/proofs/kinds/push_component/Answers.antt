use Rattle.std.proofs.Common.{ℕ, List, [], ◌∷◌, Option, Some, refl, sym, ◌∙◌}
use Rattle.std.specs.Prelude.{codes}
use Rattle.json_tree.specs.Values.{Json, text}
use Rattle.canon_text.specs.Canonical.{id_value}
use Rattle.canon_print.proofs.kinds.push_component.Goals as goal

pub returns : goal.returns
returns c =
    let rest : List (List ℕ × Option Json) = (codes "schema", Some (id_value c.args.of.now)) ∷ [] in
    c.in_ok-push_str.ensures.bytes ∙ sym (
    c.in_ok-first.ensures (text (codes "Component")) refl ((codes "name", Some (text c.args.item.now.name)) ∷ rest)
    ∙ c.in_ok-push_name.ensures (codes "name") refl rest
    ∙ rw c.as_str.ensures.same at c.in_ok-push_text.ensures (codes "schema") refl [])
