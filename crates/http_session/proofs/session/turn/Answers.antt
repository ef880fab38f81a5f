use Rattle.http_session.proofs.Stretches.{one_turn}
use Rattle.http_session.proofs.session.turn.Goals as goal

pub returns-clause-turn : goal.returns-clause-turn
returns-clause-turn g c =
    one_turn g.D.Service.goes g.D.Service.own g.D.Service.enters _ c.args.last _ (g.S.Source.left c.next_request-next.new.link) c.next_request-next.new.buffer c.next_request-next.result c.respond.result
    (g.K.Sink.taken c.args.sink.now) (g.K.Sink.taken c.respond.new.sink) c.args.service.now c.respond.new.service c.next_request-next.ensures.next c.next_request-next.ensures.fault c.respond.ensures.responds
