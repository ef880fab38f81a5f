use Rattle.std.proofs.Common.{ℕ, List, ◌∷◌, false, Option, Some, refl, ◌∙◌}
use Rattle.std.specs.Prelude.{codes}
use Rattle.std.specs.Option.{option_map}
use Rattle.json_tree.specs.Values.{Json, text}
use Rattle.dtdl_terms.specs.TermViews.{schema_term}
use Rattle.canon_text.specs.Canonical.{schema_value}
use Rattle.canon_print.proofs.Parts.{part_printed}
use Rattle.canon_print.proofs.kinds.push_measured.Goals as goal

pub returns : goal.returns
returns c = λ kind same own.
    let of = schema_value (schema_term c.args.of.now) in
    let units : List (List ℕ × Option Json) = (codes "unit", option_map text c.args.unit.now) ∷ own in
    let rest : List (List ℕ × Option Json) = (codes "schema", Some of) ∷ units in
    c.in_ok-first.ensures kind same ((codes "name", Some (text c.args.item.now.name)) ∷ rest)
    ∙ c.in_ok-push_name.ensures (codes "name") refl rest
    ∙ part_printed _ _ _ false _ (codes "schema") of c.in_ok-push_head.ensures refl c.in_ok-push_schema.ensures units
    ∙ c.in_ok-first-2.ensures (codes "unit") refl own
