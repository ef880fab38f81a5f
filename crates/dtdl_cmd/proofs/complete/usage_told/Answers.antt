use Rattle.dtdl_cmd.proofs.FaultlessRuns.{usage_ends}
use Rattle.dtdl_cmd.proofs.complete.usage_told.Goals as goal

pub returns : goal.returns
returns c = usage_ends
