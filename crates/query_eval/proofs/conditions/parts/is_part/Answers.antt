use Rattle.std.proofs.Common.{◌∙◌}
use Rattle.query_eval.proofs.conditions.Places.{found_stands}
use Rattle.query_eval.proofs.conditions.parts.is_part.Goals as goal

pub returns-in-Contains : goal.returns-in-Contains
returns-in-Contains c = rw c.in-Contains.is (c.is_some.ensures ∙ found_stands c.args.whole.now c.args.part.now c.find.result c.find.ensures)
