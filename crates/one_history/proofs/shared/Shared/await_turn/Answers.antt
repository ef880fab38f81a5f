use Rattle.std.proofs.Common.{◌∙◌}
use Rattle.one_history.proofs.shared.Shared.await_turn.Goals as goal

pub is_served-requires-clause-waits : goal.is_served-requires-clause-waits
is_served-requires-clause-waits g c = (c.requires.waits.0, c.loop.invariant.2 ∙ c.requires.waits.1)

pub returns-then-is_served-clause-served : goal.returns-then-is_served-clause-served
returns-then-is_served-clause-served g c m is = c.is_served.ensures.served c.if-is_served.true m (c.loop.invariant.2 ∙ is)
