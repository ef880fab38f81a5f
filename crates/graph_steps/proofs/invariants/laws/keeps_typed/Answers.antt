use Rattle.graph_steps.proofs.invariants.Typed as lemmas
use Rattle.graph_steps.proofs.invariants.laws.keeps_typed.Goals as goal

pub returns : goal.returns
returns c = lemmas.keeps_typed
