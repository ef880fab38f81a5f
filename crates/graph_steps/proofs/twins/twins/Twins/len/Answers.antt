use Rattle.graph_steps.proofs.twins.Kept.{in_order}
use Rattle.graph_steps.proofs.twins.twins.Twins.len.Goals as goal

pub returns-clause-ordered : goal.returns-clause-ordered
returns-clause-ordered c = in_order c.self.inside.twins.entries c.args.self.now c.self.invariant.own c.self.view_is c.self.invariant.sorted
