use Rattle.query_parse.proofs.Existence.{answered}
use Rattle.query_parse.proofs.laws.some_query_or_fault.Goals as goal

pub returns : goal.returns
returns c = answered
