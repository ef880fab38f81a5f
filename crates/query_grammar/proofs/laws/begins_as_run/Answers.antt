use Rattle.query_grammar.proofs.Begins.{begins, begun}
use Rattle.query_grammar.proofs.laws.begins_as_run.Goals as goal

pub returns : goal.returns
returns c = λ ts. (begun ts, begins ts)
