use Rattle.json_read.proofs.PrintedAgain.{printed_again}
use Rattle.json_read.proofs.laws.printed_again.Goals as goal

pub returns : goal.returns
returns c = printed_again
