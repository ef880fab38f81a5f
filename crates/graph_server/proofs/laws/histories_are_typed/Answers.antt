use Rattle.graph_server.proofs.Typed.{typed}
use Rattle.graph_server.proofs.laws.histories_are_typed.Goals as goal

pub returns : goal.returns
returns c = typed c.keeps_typed.ensures c.stays_frozen.ensures
