use Rattle.query_parse.proofs.OneAnswer.{refused_for_memory}
use Rattle.query_parse.proofs.laws.query_or_fault.Goals as goal

pub returns : goal.returns
returns c = refused_for_memory
