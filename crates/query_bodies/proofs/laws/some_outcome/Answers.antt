use Rattle.query_bodies.proofs.Existence.{some_outcome}
use Rattle.query_bodies.proofs.laws.some_outcome.Goals as goal

pub returns : goal.returns
returns c = some_outcome
