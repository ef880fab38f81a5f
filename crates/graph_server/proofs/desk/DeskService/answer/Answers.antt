use Rattle.graph_server.specs.Machinery.Calling.{DeskGoesOn}
use Rattle.graph_server.proofs.Answering.{asked, made}
use Rattle.graph_server.proofs.desk.DeskService.answer.Goals as goal

pub returns-in-Ask-clause-answers : goal.returns-in-Ask-clause-answers
returns-in-Ask-clause-answers g c =
    let o = g.O.Object in
    asked (DeskGoesOn o.state o.sound o.allowed o.follows) c.args.self.now c.answer_of_graph-answer.new.self c.args.request.now c.in-Ask.ask c.answer_of_graph-answer.result
    (made c.args.request.now c.in-Ok.prepared c.in-Ask.ask c.in-Ok.ensures c.in-Ask.is) c.answer_of_graph-answer.ensures.asked
