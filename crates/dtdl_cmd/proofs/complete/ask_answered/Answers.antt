use Rattle.dtdl_cmd.proofs.FaultlessAsks.{ask_ends}
use Rattle.dtdl_cmd.proofs.complete.ask_answered.Goals as goal

pub returns : goal.returns
returns c = ask_ends c.one_reply.ensures
