use Rattle.graph_answers.proofs.OneStep.{one_answer_of, one_state_of}
use Rattle.graph_answers.proofs.laws.one_step.Goals as goal

pub returns-clause-answer : goal.returns-clause-answer
returns-clause-answer c = one_answer_of

pub returns-clause-state : goal.returns-clause-state
returns-clause-state c = one_state_of
