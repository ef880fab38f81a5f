use Rattle.std.proofs.Common.{◌∙◌, ap}
use Rattle.dtdl_terms.specs.Sets.{interface_at}
use Rattle.graph_steps.specs.States.{interface_of}
use Rattle.graph_steps.specs.held.Held.{state_of}
use Rattle.graph_steps.proofs.held.lent.Lent.interface.Goals as goal

pub returns : goal.returns
returns c = c.get.ensures ∙ ap (interface_at c.args.model.now) c.set.ensures ∙ ap (λ h. interface_of (state_of h) c.args.model.now) c.self.view_is
