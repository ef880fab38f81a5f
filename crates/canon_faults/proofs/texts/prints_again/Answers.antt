use Rattle.canon_faults.proofs.PrintedAgain.{again_there, printed_again}
use Rattle.canon_faults.proofs.texts.prints_again.Goals as goal

pub returns-clause-there : goal.returns-clause-there
returns-clause-there c = λ is nth sound. again_there c.one_value.ensures is sound nth

pub returns-clause-each : goal.returns-clause-each
returns-clause-each c = λ is nth us v sound spelled uploaded. printed_again c.one_value.ensures is sound v nth us spelled uploaded
