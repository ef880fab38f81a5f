use Rattle.std.proofs.Common.{subst}
use Rattle.graph_steps.specs.Typed.{WellTyped}
use Rattle.graph_steps.specs.held.Held.{state_of}
use Rattle.graph_machine.proofs.machine.Machine.typed.Goals as goal

pub returns : goal.returns
returns c = subst (λ h. WellTyped (state_of h)) c.self.view_is c.self.invariant.typed
