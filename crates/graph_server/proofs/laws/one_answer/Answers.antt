use Rattle.graph_server.proofs.Unique.{functions}
use Rattle.graph_server.proofs.laws.one_answer.Goals as goal

pub returns : goal.returns
returns c = functions (record {
  requests = c.one_prepared.ensures;
  answered = c.one_step.ensures.answer;
  follows_one = c.one_step.ensures.state;
  sound = c.prepared_is_right.ensures.sound;
})
