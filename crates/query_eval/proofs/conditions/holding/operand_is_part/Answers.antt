use Rattle.std.proofs.Common.{sym, ap, ◌∙◌}
use Rattle.std.specs.Option.{option_map}
use Rattle.query_eval.specs.values.Rows.{row_view}
use Rattle.graph_steps.specs.Conditions.{operand_value}
use Rattle.query_eval.specs.conditions.Machinery.Plain.{plain_value}
use Rattle.query_eval.specs.conditions.Machinery.Sides.{side_value}
use Rattle.query_eval.proofs.conditions.Plainly.{sides_part}
use Rattle.query_eval.proofs.conditions.holding.operand_is_part.Goals as goal

pub returns-in-Ok-Some : goal.returns-in-Ok-Some
returns-in-Ok-Some c =
    c.is_text_part-so.ensures
    ∙ sides_part c.args.kind (side_value c.in-Some.whole) (side_value c.in-Ok-Some.part) (plain_value c.plain.result) (plain_value c.plain-in-Ok-Some.result)
    (operand_value (row_view c.args.row.now) c.args.whole.now) (operand_value (row_view c.args.row.now) c.args.part.now)
    (sym (ap (option_map side_value) c.in-Some.is) ∙ c.in_ok-whole.ensures)
    (sym (ap (option_map side_value) c.in-Ok-Some.field-0-is) ∙ c.in-Ok-Some.ensures)
    c.plain.ensures c.plain-in-Ok-Some.ensures
