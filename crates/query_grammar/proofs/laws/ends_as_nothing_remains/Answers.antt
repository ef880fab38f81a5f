use Rattle.query_grammar.proofs.Ends.{ends_forward, ends_backward}
use Rattle.query_grammar.proofs.laws.ends_as_nothing_remains.Goals as goal

pub returns : goal.returns
returns c = λ s w. (ends_forward s w, ends_backward s w)
