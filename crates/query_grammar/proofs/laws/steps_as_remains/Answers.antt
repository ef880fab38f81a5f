use Rattle.query_grammar.proofs.Forward.{forward}
use Rattle.query_grammar.proofs.Backward.{backward}
use Rattle.query_grammar.proofs.laws.steps_as_remains.Goals as goal

pub returns : goal.returns
returns c = λ s at t rest w. (forward s at t rest w, backward s at t rest w)
