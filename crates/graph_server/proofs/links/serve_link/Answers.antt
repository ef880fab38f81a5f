use Rattle.std.proofs.Common.{sym}
use Rattle.dt_base.specs.Faults.{Rose}
use Rattle.one_history.specs.Passes.{opening}
use Rattle.graph_server.proofs.Calling.{own_after, session_after, history_after}
use Rattle.graph_server.proofs.links.serve_link.Goals as goal

pub returns-clause-own : goal.returns-clause-own
returns-clause-own g c =
    let o = g.O.Object in
    let went = c.serve_link.ensures.session.2.goes_by in
    own_after o.state o.sound o.allowed o.follows c.args.shared.now c.serve_link.new.service.shared.now (opening c.args.shared.now) c.args.pass.now c.serve_link.new.service.pass.now c.pass-1.given.0 _
    (c.pass-1.given.1 (sym went.place)) went.pass went.shared c.serve_link.ensures.ready.0

pub returns-clause-session : goal.returns-clause-session
returns-clause-session g c =
    let o = g.O.Object in
    let served = c.serve_link.ensures.session in
    let went = served.2.goes_by in
    session_after o.state o.sound o.allowed o.follows c.args.shared.now c.serve_link.new.service.shared.now (opening c.args.shared.now) c.args.pass.now c.serve_link.new.service.pass.now c.pass-1.given.0 served.0
    (c.pass-1.given.1 (sym went.place)) went.pass (Rose (g.L.Sink.faults c.args.link.now) (g.L.Sink.faults c.serve_link.new.link)) c.serve_link.result
    (g.L.Source.left c.args.link.now) (g.L.Source.left c.serve_link.new.link) (g.L.Sink.taken c.args.link.now) (g.L.Sink.taken c.serve_link.new.link) served.1 served.3 served.2.appended

pub returns-clause-history : goal.returns-clause-history
returns-clause-history g c =
    let o = g.O.Object in
    let went = c.serve_link.ensures.session.2.goes_by in
    history_after o.state o.sound o.allowed o.follows c.args.shared.now c.serve_link.new.service.shared.now (opening c.args.shared.now) c.args.pass.now c.serve_link.new.service.pass.now c.pass-1.given.0 _
    (c.pass-1.given.1 (sym went.place)) went.pass
