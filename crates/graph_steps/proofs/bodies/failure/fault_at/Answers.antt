use Rattle.std.proofs.Common.{ap, ◌∙◌}
use Rattle.graph_asks.specs.declared.refusal.At.TheVariants as places
use Rattle.graph_asks.specs.declared.refusal.Refusal.TheVariants as refusals
use Rattle.graph_steps.proofs.bodies.failure.fault_at.Goals as goal

pub returns : goal.returns
returns c = (c.in_ok-pointer.pointer.text, c.in_ok-pointer.ensures.text, ap (refusals.BodyFault (places.Pointer c.in_ok-pointer.pointer.text)) (c.in_ok-fault.ensures ∙ c.text.ensures))
