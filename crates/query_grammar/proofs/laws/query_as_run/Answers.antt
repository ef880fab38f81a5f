use Rattle.query_grammar.proofs.Asks.{query_forward, query_backward}
use Rattle.query_grammar.proofs.laws.query_as_run.Goals as goal

pub returns : goal.returns
returns c = λ ts w. (query_forward ts w, query_backward ts w)
