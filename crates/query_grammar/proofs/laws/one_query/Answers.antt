use Rattle.query_grammar.proofs.Asks.{one_query}
use Rattle.query_grammar.proofs.laws.one_query.Goals as goal

pub returns : goal.returns
returns c = one_query
