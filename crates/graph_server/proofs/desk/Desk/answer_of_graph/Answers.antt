use Rattle.std.proofs.Common.{refl}
use Rattle.one_history.specs.Passes.{opening}
use Rattle.graph_server.specs.Machinery.Calling.{DeskGoesOn}
use Rattle.graph_server.proofs.Answering.{replied}
use Rattle.graph_server.proofs.Calling.{call_goes}
use Rattle.graph_server.proofs.desk.Desk.answer_of_graph.Goals as goal

pub returns-clause-asked : goal.returns-clause-asked
returns-clause-asked g c =
    let o = g.O.Object in
    replied (DeskGoesOn o.state o.sound o.allowed o.follows) c.args.self.now _ c.args.ask.now c.in-Ok.reply c.answer_of_reply-answer.result
    (record {
      shared = refl;
      place = refl;
      pass = call_goes o.state o.sound o.allowed o.follows (opening c.args.self.now.shared.now) c.args.self.now.pass.now c.call.new.pass c.args.ask.now c.in-Ok.reply
          c.in-Ok.ensures.own.1 c.in-Ok.ensures.answered c.in-Ok.ensures.history;
    }) c.answer_of_reply-answer.ensures.made
