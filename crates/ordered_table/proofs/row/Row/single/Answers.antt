use Rattle.ordered_table.proofs.Ordered.{one_sorted}
use Rattle.ordered_table.proofs.row.Row.single.Goals as goal

pub returns-clause-ordered : goal.returns-clause-ordered
returns-clause-ordered g c = one_sorted g.K.Ord.cmp (c.args.key, c.args.value) c.new.result.entries c.new.ensures.empty
