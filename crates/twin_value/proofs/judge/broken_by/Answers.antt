use Rattle.json_tree.specs.View.{view}
use Rattle.twin_value.proofs.Judged.{part_judges}
use Rattle.twin_value.proofs.judge.broken_by.Goals as goal

pub returns-in-Part-clause-first : goal.returns-in-Part-clause-first
returns-in-Part-clause-first c = rw c.in-Part.is (part_judges _ _ (view c.args.tree.now) _ c.broken_object-in-Part.ensures)
