use Rattle.graph_steps.proofs.Empty as lemmas
use Rattle.graph_steps.proofs.laws.empty_is_typed.Goals as goal

pub returns : goal.returns
returns c = lemmas.empty_is_typed
