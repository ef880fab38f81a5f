use Rattle.std.proofs.Common.{◌+◌, ◌==◌, [], refl, inr, arith}
use Rattle.std.proofs.KnownBytes.{Consumes-nil}
use Rattle.http_ends.specs.declared.request.HttpEnd.TheVariants as causes
use Rattle.http_ends.specs.Streams.{stream_of}
use Rattle.http_session.specs.Turns.{world}
use Rattle.http_session.proofs.Stretches.{none_yet, one_more, last_turn, rose_before, not_yet_last}
use Rattle.http_session.proofs.session.serve.Goals as goal

pub returns-in_default-clause-session : goal.returns-in_default-clause-session
returns-in_default-clause-session g c =
    let wrote = c.give_up.ensures.wrote in
    let here = world (g.S.Source.left c.args.source.now) (g.K.Sink.taken c.args.sink.now) c.args.service.now in
    let there = world (g.S.Source.left c.args.source.now) (g.K.Sink.taken c.give_up.new.sink) c.args.service.now in
    last_turn g.D.Service.goes g.D.Service.own g.D.Service.enters g.met.D.Service.goes_on 0 _ _ _ here here there (g.S.Source.left c.args.source.now) (λ rose. rose) (omega arith)
    (none_yet g.D.Service.goes g.D.Service.own g.D.Service.enters g.met.D.Service.stays here here refl refl refl)
    ([], wrote.0, record { goes_by = g.met.D.Service.stays c.args.service.now; appended = wrote.1 }, inr (causes.OutOfMemory, tt, refl, wrote.2), ([], Consumes-nil here.bytes))

pub returns-in-Some-clause-session : goal.returns-in-Some-clause-session
returns-in-Some-clause-session g c =
    last_turn g.D.Service.goes g.D.Service.own g.D.Service.enters g.met.D.Service.goes_on c.turns.replies _ _ c.in-Some.end _ _ _ (g.S.Source.left c.turn.new.source)
    (rose_before _ _ _ c.turns.invariant.write_count) c.turns.invariant.few c.turns.invariant.going c.in-Some.ensures.turn

pub turns-preserved : goal.turns-preserved
turns-preserved g c =
    let turn = c.in_default-turn.ensures.turn in
    let first = world (g.S.Source.left c.args.source.now) (g.K.Sink.taken c.args.sink.now) c.args.service.now in
    let here = world (stream_of c.turns.buffer (g.S.Source.left c.turns.source)) (g.K.Sink.taken c.turns.sink) c.turns.service in
    let there = world (stream_of c.turn.new.buffer (g.S.Source.left c.turn.new.source)) (g.K.Sink.taken c.turn.new.sink) c.turn.new.service in
    record {
      going = one_more g.D.Service.goes g.D.Service.own g.D.Service.enters g.met.D.Service.goes_on c.turns.replies (Unit {0}) (c.turns.replies + 1 == 1000000) first here there (g.S.Source.left c.turn.new.source) c.turns.invariant.going turn;
      few = not_yet_last c.turns.replies c.turns.invariant.few turn.3;
      ready = c.in_default-turn.ensures.ready;
      read_count = omega (arith, c.in_default-turn.ensures.read_count, c.turns.invariant.read_count);
      write_count = omega (arith, c.in_default-turn.ensures.write_count, c.turns.invariant.write_count);
      beside_source = cc (c.in_default-turn.ensures.beside_source, c.turns.invariant.beside_source);
      beside_sink = cc (c.in_default-turn.ensures.beside_sink, c.turns.invariant.beside_sink);
    }
