use Rattle.query_parse.proofs.OneAnswer.{one_refusal}
use Rattle.query_parse.proofs.laws.one_fault.Goals as goal

pub returns : goal.returns
returns c = one_refusal
