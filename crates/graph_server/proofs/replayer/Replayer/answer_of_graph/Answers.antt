use Rattle.graph_steps.specs.held.Held.{state_of}
use Rattle.graph_server.specs.Entries.{IsLegalHistory}
use Rattle.graph_server.proofs.Answering.{replied}
use Rattle.graph_server.proofs.Methods.{reply_lists}
use Rattle.graph_server.proofs.replayer.Replayer.answer_of_graph.Goals as goal

pub answer_of_reply-answer-requires : goal.answer_of_reply-answer-requires
answer_of_reply-answer-requires c = reply_lists (state_of c.args.self.now.machine) c.args.ask.now c.in-Ok.reply c.in-Ok.ensures.allowed

pub returns-clause-asked : goal.returns-clause-asked
returns-clause-asked c =
    replied (λ s es t. IsLegalHistory (state_of s.machine) es (state_of t.machine)) c.args.self.now (record c.args.self.now { machine = c.step.new.self }) c.args.ask.now c.in-Ok.reply c.answer_of_reply-answer.result
    ((c.requires, c.in-Ok.ensures.allowed), c.in-Ok.ensures.follows) c.answer_of_reply-answer.ensures.made
