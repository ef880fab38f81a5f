use Rattle.dtdl_cmd.proofs.FaultlessRuns.{replay_ends}
use Rattle.dtdl_cmd.proofs.complete.replay_answered.Goals as goal

pub returns : goal.returns
returns c = replay_ends c.one_replay.ensures
