use Rattle.dtdl_cmd.proofs.OneReplay.{one_replay}
use Rattle.dtdl_cmd.proofs.laws.one_replay.Goals as goal

pub returns : goal.returns
returns c = one_replay c.one_replay.ensures
