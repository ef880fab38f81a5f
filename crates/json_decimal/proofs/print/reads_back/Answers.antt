use Rattle.json_decimal.proofs.ReadsBack.{decimal_reads_back}
use Rattle.json_decimal.proofs.print.reads_back.Goals as goal

pub returns : goal.returns
returns c = decimal_reads_back
