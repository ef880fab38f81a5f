use Rattle.dtdl_cmd.proofs.OneInput.{one_input}
use Rattle.dtdl_cmd.proofs.laws.one_input.Goals as goal

pub returns : goal.returns
returns c = one_input
