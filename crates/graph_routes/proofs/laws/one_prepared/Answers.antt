use Rattle.graph_routes.proofs.OnePrepared.{one_prepared}
use Rattle.graph_routes.proofs.laws.one_prepared.Goals as goal

pub returns : goal.returns
returns c = one_prepared (record {
  number = c.one_number.ensures;
  patch = c.one_answer.ensures.patch;
  fault = c.one_answer.ensures.fault;
  either = c.one_answer.ensures.either;
})
