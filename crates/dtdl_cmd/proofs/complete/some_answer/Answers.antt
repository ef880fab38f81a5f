use Rattle.dtdl_cmd.proofs.SomeAnswer.{some_answer}
use Rattle.dtdl_cmd.proofs.complete.some_answer.Goals as goal

pub returns : goal.returns
returns c = some_answer c.declaration_or_fault.ensures
