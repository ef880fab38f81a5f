use Rattle.std.proofs.Common.{ℕ, List, [], ◌∷◌, Option, Some, map, refl, sym, ◌∙◌}
use Rattle.std.specs.Prelude.{codes}
use Rattle.json_tree.specs.Values.{Json, text}
use Rattle.canon_text.specs.Canonical.{enum_entry_pair, value_schema_json}
use Rattle.canon_text.specs.Objects.{list_in_order}
use Rattle.canon_print.proofs.Parts.{part_printed}
use Rattle.canon_print.proofs.schemas.push_enumeration.Goals as goal

pub returns : goal.returns
returns c =
    let kind : List ℕ × Option Json = (codes "valueSchema", Some (value_schema_json c.args.of_text)) in
    let values = list_in_order (map enum_entry_pair c.args.values.now) in
    c.in_ok-push_str.ensures.bytes ∙ sym (
    c.in_ok-first.ensures (text (codes "Enum")) refl ((codes "enumValues", Some values) ∷ kind ∷ [])
    ∙ part_printed _ _ _ c.in_ok-first.first _ (codes "enumValues") values c.in_ok-push_head.ensures refl c.in_ok-push_enum_entries.ensures (kind ∷ [])
    ∙ c.in_ok-push_value_schema.ensures [])
