use Rattle.twin_patch.proofs.Existence.{some_answer}
use Rattle.twin_patch.proofs.laws.some_answer.Goals as goal

pub returns : goal.returns
returns c = some_answer
