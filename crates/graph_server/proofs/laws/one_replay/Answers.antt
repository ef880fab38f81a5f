use Rattle.graph_server.proofs.Unique.{one_replay}
use Rattle.graph_server.proofs.laws.one_replay.Goals as goal

pub returns : goal.returns
returns c = one_replay c.one_answer.ensures c.one_session.ensures
