use Rattle.std.proofs.Common.{ap}
use Rattle.std.specs.Option.{is_some}
use Rattle.ordered_table.proofs.Ordered.{one_sorted}
use Rattle.ordered_table.proofs.row.Row.set.Goals as goal

pub returns-in-Some-clause-ordered : goal.returns-in-Some-clause-ordered
returns-in-Some-clause-ordered g c =
    one_sorted g.K.Ord.cmp c.write.new.entry c.self.inside.entries.entries (c.self.invariant (ap is_some c.in-Some.is))
