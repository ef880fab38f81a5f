use Rattle.graph_server.proofs.Working.{visited}
use Rattle.one_history.specs.Passes.{seen, number}
use Rattle.graph_server.proofs.works.visit.Goals as goal

pub returns-clause-visit : goal.returns-clause-visit
returns-clause-visit g c =
    let count = g.met.D.Link.Link.one_count in
    let new = c.serve_link-end.new.link in
    let served = c.serve_link-end.ensures in
    visited (number c.args.pass.now) (seen c.args.pass.now) (seen c.serve_link-end.new.pass) _
    (record { left = g.D.Link.Source.left new; taken = g.D.Link.Sink.taken new; faults = g.D.Link.Source.faults new })
    (g.D.Door.gone c.args.door.now) (g.D.Door.gone c.done.new.self) c.serve_link-end.result (g.D.Link.Sink.faults c.args.link) (g.D.Link.Sink.faults new)
    served.session (count c.args.link) (count new) c.requires.fresh served.read_cause served.write_cause c.done.ensures.gone
