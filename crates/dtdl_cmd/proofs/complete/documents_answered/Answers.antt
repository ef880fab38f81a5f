use Rattle.dtdl_cmd.proofs.FaultlessRuns.{ends_with}
use Rattle.dtdl_cmd.proofs.complete.documents_answered.Goals as goal

pub returns : goal.returns
returns c = λ words command input shelf output found run.
    ends_with c.one_answer.ensures words command run.names run.are input shelf output found run.told run.read run.taken
