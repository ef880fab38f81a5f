use Rattle.graph_answers.proofs.SomeAnswer.{some_answer}
use Rattle.graph_answers.proofs.existence.some_answer.Goals as goal

pub returns : goal.returns
returns c = some_answer
