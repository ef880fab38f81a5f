use Rattle.graph_routes.proofs.SomePrepared.{some_prepared}
use Rattle.graph_routes.proofs.laws.some_prepared.Goals as goal

pub returns : goal.returns
returns c = some_prepared (record {
  json = c.value_or_fault.ensures;
  patch = c.some_answer.ensures;
  local = c.breach_or_none.ensures;
  declared = c.declaration_is_there.ensures;
  query = c.some_outcome.ensures;
})
