use Rattle.std.proofs.Common.{◌≡◌, ◌≤◌, Option, List, ℕ, None, sym, ◌∙◌, subst, arith}
use Rattle.dt_base.specs.Faults.{Rose}
use Rattle.http_ends.specs.Streams.{stream_of}
use Rattle.http_session.specs.Turns.{world, Responds, Turns}
use Rattle.http_session.proofs.Stretches.{one_turn, turn_weaker, rose_before}
use Rattle.http_session.proofs.links.link_turn.Given.{Over}
use Rattle.http_session.proofs.links.link_turn.Goals as goal

-- the sink's count did not fall while a request was read
risen : (g : Over) (c : goal.After-respond g) → g.L.Sink.faults c.args.link.now ≤ g.L.Sink.faults c.next_request-next.new.link
risen g c = omega (arith, c.next_request-next.ensures.count, g.met.L.Link.one_count c.args.link.now, g.met.L.Link.one_count c.next_request-next.new.link)

pub returns-clause-turn : goal.returns-clause-turn
returns-clause-turn g c =
    let law = g.met.L.Link in
    let mid = c.next_request-next.new.link in
    let new = c.respond.new.sink in
    let rose = Rose (g.L.Sink.faults mid) (g.L.Sink.faults new) in
    let here = world (stream_of c.args.buffer.now (g.L.Source.left c.args.link.now)) (g.L.Sink.taken c.args.link.now) c.args.service.now in
    let there = λ (l : Option (List ℕ)). world (stream_of c.next_request-next.new.buffer l) (g.L.Sink.taken new) c.respond.new.service in
    let taken : g.L.Sink.taken mid ≡ g.L.Sink.taken c.args.link.now = sym (law.taken_aside mid) ∙ c.next_request-next.ensures.beside ∙ law.taken_aside c.args.link.now in
    let left : g.L.Source.left mid ≡ g.L.Source.left new = sym (law.left_aside mid) ∙ sym c.respond.ensures.beside ∙ law.left_aside new in
    let responds = subst (λ (t : Option (List ℕ)). Responds g.D.Service.goes g.D.Service.own g.D.Service.enters rose c.args.last c.next_request-next.result (world None t c.args.service.now) (world None (g.L.Sink.taken new) c.respond.new.service) c.respond.result) taken c.respond.ensures.responds in
    let turn = one_turn g.D.Service.goes g.D.Service.own g.D.Service.enters rose c.args.last here.bytes (g.L.Source.left mid) c.next_request-next.new.buffer c.next_request-next.result c.respond.result
    here.taken (g.L.Sink.taken new) c.args.service.now c.respond.new.service c.next_request-next.ensures.next c.next_request-next.ensures.fault responds in
    let moved = subst (λ (l : Option (List ℕ)). Turns g.D.Service.goes g.D.Service.own g.D.Service.enters rose c.args.last here (there l) l c.respond.result) left turn in
    turn_weaker g.D.Service.goes g.D.Service.own g.D.Service.enters rose (Rose (g.L.Sink.faults c.args.link.now) (g.L.Sink.faults new)) c.args.last here (there (g.L.Source.left new)) (g.L.Source.left new) c.respond.result
    (rose_before (g.L.Sink.faults c.args.link.now) (g.L.Sink.faults mid) (g.L.Sink.faults new) (risen g c)) moved
