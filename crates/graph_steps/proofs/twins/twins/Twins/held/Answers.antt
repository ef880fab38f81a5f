use Rattle.std.proofs.Common.{◌∙◌}
use Rattle.graph_steps.proofs.twins.Kept.{under-held_at}
use Rattle.graph_steps.proofs.twins.twins.Twins.held.Goals as goal

pub returns : goal.returns
returns c = c.get.ensures.value ∙ under-held_at c.self.inside.twins.entries c.args.self.now c.self.invariant.own c.self.view_is c.args.id.now
