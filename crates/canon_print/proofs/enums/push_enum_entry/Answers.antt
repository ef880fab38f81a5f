use Rattle.std.proofs.Common.{ℕ, List, [], ◌∷◌, Option, Some, refl, sym, ◌∙◌}
use Rattle.std.specs.Prelude.{codes}
use Rattle.json_tree.specs.Values.{Json, text}
use Rattle.canon_text.specs.Canonical.{enum_value}
use Rattle.canon_print.proofs.Parts.{part_printed}
use Rattle.canon_print.proofs.enums.push_enum_entry.Goals as goal

pub returns : goal.returns
returns c =
    let name : List ℕ × Option Json = (codes "name", Some (text c.args.entry.now.name)) in
    let value = enum_value c.args.entry.now.value in
    c.in_ok-push_str.ensures.bytes ∙ sym (
    c.in_ok-first.ensures ((codes "enumValue", Some value) ∷ name ∷ [])
    ∙ part_printed _ _ _ c.in_ok-first.first _ (codes "enumValue") value c.in_ok-push_head.ensures refl c.in_ok-push_enum_value.ensures (name ∷ [])
    ∙ c.in_ok-push_name.ensures (codes "name") refl [])
