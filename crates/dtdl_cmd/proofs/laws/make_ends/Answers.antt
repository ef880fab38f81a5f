use Rattle.dtdl_cmd.proofs.OneMake.{make_ends}
use Rattle.dtdl_cmd.proofs.laws.make_ends.Goals as goal

pub returns : goal.returns
returns c = make_ends
