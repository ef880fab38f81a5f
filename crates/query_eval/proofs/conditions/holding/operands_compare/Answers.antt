use Rattle.std.proofs.Common.{sym, ap, ◌∙◌}
use Rattle.std.specs.Option.{option_map}
use Rattle.query_eval.specs.values.Rows.{row_view}
use Rattle.graph_steps.specs.Conditions.{operand_value}
use Rattle.query_eval.specs.conditions.Machinery.Plain.{plain_value}
use Rattle.query_eval.specs.conditions.Machinery.Sides.{side_value}
use Rattle.query_eval.proofs.conditions.Plainly.{sides_compare}
use Rattle.query_eval.proofs.conditions.holding.operands_compare.Goals as goal

pub returns-in-Ok-Some : goal.returns-in-Ok-Some
returns-in-Ok-Some c =
    c.compares-so.ensures
    ∙ sides_compare c.args.compare (side_value c.in-Some.left) (side_value c.in-Ok-Some.right) (plain_value c.plain.result) (plain_value c.plain-in-Ok-Some.result)
    (operand_value (row_view c.args.row.now) c.args.left.now) (operand_value (row_view c.args.row.now) c.args.right.now)
    (sym (ap (option_map side_value) c.in-Some.is) ∙ c.in_ok-left.ensures)
    (sym (ap (option_map side_value) c.in-Ok-Some.field-0-is) ∙ c.in-Ok-Some.ensures)
    c.plain.ensures c.plain-in-Ok-Some.ensures
