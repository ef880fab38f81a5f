use Rattle.graph_steps.proofs.invariants.FrozenStays as lemmas
use Rattle.graph_steps.proofs.invariants.laws.stays_frozen.Goals as goal

pub returns : goal.returns
returns c = lemmas.stays_frozen
