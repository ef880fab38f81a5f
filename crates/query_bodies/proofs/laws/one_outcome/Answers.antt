use Rattle.query_bodies.proofs.OneOutcome.{one_of_body}
use Rattle.query_bodies.proofs.laws.one_outcome.Goals as goal

pub returns : goal.returns
returns c = one_of_body
