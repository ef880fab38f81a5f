use Rattle.std.proofs.Common.{refl}
use Rattle.graph_steps.specs.held.Held.{state_of}
use Rattle.graph_server.specs.Entries.{IsLegalHistory}
use Rattle.graph_server.proofs.Answering.{asked, decided, made, refused}
use Rattle.graph_server.proofs.replayer.ReplayerService.answer.Goals as goal

pub answer_of_refusal-answer-requires : goal.answer_of_refusal-answer-requires
answer_of_refusal-answer-requires c = c.prepared_is_right.ensures.written c.args.request.now c.in-Own.refusal (decided c.args.request.now c.in-Ok.prepared c.in-Own.refusal c.in-Ok.ensures c.in-Own.is)

pub returns-in-Own-clause-answers : goal.returns-in-Own-clause-answers
returns-in-Own-clause-answers c =
    refused (λ a es b. IsLegalHistory (state_of a.machine) es (state_of b.machine)) c.args.self.now c.args.self.now c.args.request.now c.in-Own.refusal c.answer_of_refusal-answer.result
    (decided c.args.request.now c.in-Ok.prepared c.in-Own.refusal c.in-Ok.ensures c.in-Own.is) refl c.answer_of_refusal-answer.ensures.refused

pub answer_of_graph-answer-requires : goal.answer_of_graph-answer-requires
answer_of_graph-answer-requires c = c.prepared_is_right.ensures.sound c.args.request.now c.in-Ask.ask (made c.args.request.now c.in-Ok.prepared c.in-Ask.ask c.in-Ok.ensures c.in-Ask.is)

pub returns-in-Ask-clause-answers : goal.returns-in-Ask-clause-answers
returns-in-Ask-clause-answers c =
    asked (λ a es b. IsLegalHistory (state_of a.machine) es (state_of b.machine)) c.args.self.now c.answer_of_graph-answer.new.self c.args.request.now c.in-Ask.ask c.answer_of_graph-answer.result
    (made c.args.request.now c.in-Ok.prepared c.in-Ask.ask c.in-Ok.ensures c.in-Ask.is) c.answer_of_graph-answer.ensures.asked
