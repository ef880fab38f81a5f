use Rattle.query_parse.proofs.OneAnswer.{one_asked}
use Rattle.query_parse.proofs.laws.one_query.Goals as goal

pub returns : goal.returns
returns c = one_asked
