use Rattle.dtdl_cmd.proofs.OneAnswer.{one_answer}
use Rattle.dtdl_cmd.proofs.laws.one_answer.Goals as goal

pub returns : goal.returns
returns c = one_answer c.one_number.ensures
