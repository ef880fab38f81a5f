use Rattle.query_grammar.proofs.Asks.{goes_on}
use Rattle.query_grammar.proofs.laws.each_state_goes_on.Goals as goal

pub returns : goal.returns
returns c = goes_on
