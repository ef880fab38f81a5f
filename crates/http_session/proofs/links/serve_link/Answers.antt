use Rattle.std.proofs.Common.{◌≡◌, ◌+◌, ◌==◌, [], Some, refl, ap, sym, ◌∙◌, inr, arith}
use Rattle.std.proofs.KnownBytes.{Consumes-nil}
use Rattle.http_ends.specs.declared.request.HttpEnd.TheVariants as causes
use Rattle.http_ends.specs.Streams.{stream_of}
use Rattle.http_session.specs.Turns.{world}
use Rattle.http_session.proofs.Stretches.{none_yet, one_more, last_turn, rose_before, not_yet_last}
use Rattle.http_session.proofs.links.serve_link.Goals as goal

pub returns-in_default-clause-session : goal.returns-in_default-clause-session
returns-in_default-clause-session g c =
    let wrote = c.give_up.ensures.wrote in
    let left : g.L.Source.left c.give_up.new.sink ≡ g.L.Source.left c.args.link.now = sym (g.met.L.Link.left_aside c.give_up.new.sink) ∙ c.give_up.ensures.beside ∙ g.met.L.Link.left_aside c.args.link.now in
    let here = world (g.L.Source.left c.args.link.now) (g.L.Sink.taken c.args.link.now) c.args.service.now in
    let there = world (g.L.Source.left c.args.link.now) (g.L.Sink.taken c.give_up.new.sink) c.args.service.now in
    last_turn g.D.Service.goes g.D.Service.own g.D.Service.enters g.met.D.Service.goes_on 0 _ _ _ here here there (g.L.Source.left c.give_up.new.sink) (λ rose. rose) (omega arith)
    (none_yet g.D.Service.goes g.D.Service.own g.D.Service.enters g.met.D.Service.stays here here refl refl refl)
    ([], wrote.0, record { goes_by = g.met.D.Service.stays c.args.service.now; appended = wrote.1 }, inr (causes.OutOfMemory, tt, refl, wrote.2), ([], rw left (Consumes-nil here.bytes)))

pub returns-in-Some-clause-session : goal.returns-in-Some-clause-session
returns-in-Some-clause-session g c =
    last_turn g.D.Service.goes g.D.Service.own g.D.Service.enters g.met.D.Service.goes_on c.turns.replies _ _ c.in-Some.end _ _ _ (g.L.Source.left c.link_turn.new.link)
    (rose_before _ _ _ c.turns.invariant.count) c.turns.invariant.few c.turns.invariant.going c.in-Some.ensures.turn

pub returns-in-Some-clause-read_cause : goal.returns-in-Some-clause-read_cause
returns-in-Some-clause-read_cause g c = λ is.
    rose_before _ _ _ (omega (arith, c.turns.invariant.count, g.met.L.Link.one_count c.args.link.now, g.met.L.Link.one_count c.turns.link)) (c.in-Some.ensures.read_cause (ap Some is))

pub turns-preserved : goal.turns-preserved
turns-preserved g c =
    let turn = c.in_default-link_turn.ensures.turn in
    let first = world (g.L.Source.left c.args.link.now) (g.L.Sink.taken c.args.link.now) c.args.service.now in
    let here = world (stream_of c.turns.buffer (g.L.Source.left c.turns.link)) (g.L.Sink.taken c.turns.link) c.turns.service in
    let there = world (stream_of c.link_turn.new.buffer (g.L.Source.left c.link_turn.new.link)) (g.L.Sink.taken c.link_turn.new.link) c.link_turn.new.service in
    record {
      going = one_more g.D.Service.goes g.D.Service.own g.D.Service.enters g.met.D.Service.goes_on c.turns.replies (Unit {0}) (c.turns.replies + 1 == 1000000) first here there (g.L.Source.left c.link_turn.new.link) c.turns.invariant.going turn;
      few = not_yet_last c.turns.replies c.turns.invariant.few turn.3;
      ready = c.in_default-link_turn.ensures.ready;
      count = omega (arith, c.in_default-link_turn.ensures.count, c.turns.invariant.count);
    }
