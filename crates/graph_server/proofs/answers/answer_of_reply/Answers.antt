use Rattle.graph_server.proofs.answers.answer_of_reply.Goals as goal

pub returns-in-Ok-clause-writable : goal.returns-in-Ok-clause-writable
returns-in-Ok-clause-writable c = c.in-Ok.ensures.writable c.requires
