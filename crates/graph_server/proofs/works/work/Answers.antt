use Rattle.std.proofs.Common.{◌≡◌, Ok, Some, refl, ap, subst, arith, ◌∙◌}
use Rattle.connections.specs.Records.{LinkRecord, Takes}
use Rattle.one_history.specs.Passes.{seen, number}
use Rattle.graph_server.specs.Machinery.Turns.{IsVisit}
use Rattle.graph_server.proofs.Working.{none_yet, one_failed, one_served, all_done, rose_more, rose_later, once, broke}
use Rattle.graph_server.proofs.works.work.Goals as goal

pub turns-init : goal.turns-init
turns-init g c = record {
  own = c.requires.own;
  same = (refl, refl);
  so_far = none_yet (number c.args.pass.now) (seen c.args.pass.now) (g.D.Door.ahead c.args.door.now) (g.D.Door.gone c.args.door.now);
  legal = λ h. h;
  left = omega arith;
  few_broken = omega arith;
  few_short = omega arith;
  failed = λ some. absurd (omega (arith, some));
  broken = λ some. absurd (omega (arith, some));
  count = omega arith;
  lost = omega arith;
}

pub returns-in-Ok-None-clause-own : goal.returns-in-Ok-None-clause-own
returns-in-Ok-None-clause-own g c = (c.turns.invariant.own, c.turns.invariant.same)

pub returns-in-Ok-None-clause-history : goal.returns-in-Ok-None-clause-history
returns-in-Ok-None-clause-history g c = c.turns.invariant.legal

pub returns-in-Ok-None-clause-work : goal.returns-in-Ok-None-clause-work
returns-in-Ok-None-clause-work g c =
    let e = c.in-Ok-None.ensures in
    let none_left : g.D.Door.left c.turns.door ≡ 0 = e.end.0 (ap Ok c.in-Ok-None.field-0-is) in
    all_done (number c.args.pass.now) (seen c.args.pass.now) (g.D.Door.ahead c.args.door.now) (g.D.Door.gone c.args.door.now) (seen c.turns.pass)
    (g.D.Door.ahead c.turns.door) (g.D.Door.ahead c.next.new.self) (g.D.Door.gone c.turns.door) c.turns.work.links c.turns.work.faults c.turns.work.broken c.turns.work.short c.turns.invariant.so_far
    (g.D.Door.gone c.next.new.self) (g.D.Door.left c.turns.door) e.gone (g.met.D.Door.one_each c.turns.door) none_left

pub returns-in-Ok-None-clause-turns : goal.returns-in-Ok-None-clause-turns
returns-in-Ok-None-clause-turns g c =
    let none_left : g.D.Door.left c.turns.door ≡ 0 = c.in-Ok-None.ensures.end.0 (ap Ok c.in-Ok-None.field-0-is) in
    omega (arith, c.turns.invariant.left, none_left)

pub returns-in-Ok-None-clause-failed : goal.returns-in-Ok-None-clause-failed
returns-in-Ok-None-clause-failed g c = λ some. rose_more _ _ _ (c.turns.invariant.failed some) c.in-Ok-None.ensures.count

pub returns-in-Ok-None-clause-broken : goal.returns-in-Ok-None-clause-broken
returns-in-Ok-None-clause-broken g c = λ some. rose_more _ (g.D.Door.lost c.turns.door) _ (c.turns.invariant.broken some) (omega (arith, c.in-Ok-None.ensures.lost))

pub visit-end-requires-clause-own : goal.visit-end-requires-clause-own
visit-end-requires-clause-own g c = c.turns.invariant.own

pub count-requires-clause-links : goal.count-requires-clause-links
count-requires-clause-links g c = omega (arith, c.turns.invariant.left, g.met.D.Door.within c.args.door.now)

pub count-requires-clause-broken : goal.count-requires-clause-broken
count-requires-clause-broken g c = omega (arith, c.turns.invariant.left, c.turns.invariant.few_broken, g.met.D.Door.within c.args.door.now)

pub count-requires-clause-short : goal.count-requires-clause-short
count-requires-clause-short g c = omega (arith, c.turns.invariant.left, c.turns.invariant.few_short, g.met.D.Door.within c.args.door.now)

pub overflow_add-work : goal.overflow_add-work
overflow_add-work g c = omega (arith, c.turns.invariant.left, g.met.D.Door.within c.args.door.now)

pub turns-preserved-in-Ok-Some : goal.turns-preserved-in-Ok-Some
turns-preserved-in-Ok-Some g c =
    let i = c.turns.invariant in
    let e = c.in-Ok-Some.ensures in
    let v = c.visit-end.ensures in
    let n = c.count.ensures in
    let link = c.in-Ok-Some.link in
    let came : LinkRecord = record { left = g.D.Link.Source.left link; taken = g.D.Link.Sink.taken link; faults = g.D.Link.Source.faults link } in
    let took : Takes (g.D.Door.ahead c.turns.door) (g.D.Door.ahead c.next.new.self) (Some came) = rw c.in-Ok-Some.field-0-is at e.given in
    let seen_to = subst (λ z. IsVisit z (seen c.turns.pass) (seen c.visit-end.new.pass) came (g.D.Door.gone c.next.new.self) (g.D.Door.gone c.visit-end.new.door) c.visit-end.result) i.same.0 v.visit in
    let some_left : (g.D.Door.left c.turns.door ≡ 0) → ⊥ = λ none. absurd (let x = e.end.1 none in cc) in record {
      own = v.own.0;
      same = (v.own.1.0 ∙ i.same.0, v.own.1.1 ∙ i.same.1);
      so_far = one_served (number c.args.pass.now) (seen c.args.pass.now) (g.D.Door.ahead c.args.door.now) (g.D.Door.gone c.args.door.now) (seen c.turns.pass)
          (g.D.Door.ahead c.turns.door) (g.D.Door.ahead c.visit-end.new.door) (g.D.Door.gone c.turns.door) c.turns.work.links c.turns.work.faults c.turns.work.broken c.turns.work.short i.so_far
          (seen c.visit-end.new.pass) came (g.D.Door.ahead c.next.new.self) (g.D.Door.gone c.next.new.self) (g.D.Door.gone c.visit-end.new.door) c.visit-end.result
          c.count.new.self.links c.count.new.self.faults c.count.new.self.broken c.count.new.self.short v.ahead e.gone took seen_to n.links n.faults n.broken n.short;
      legal = λ h. v.history (i.legal h);
      left = omega (arith, i.left, n.links, n.faults, e.left, v.left, some_left);
      few_broken = omega (arith, i.few_broken, n.links, n.broken, (once c.visit-end.result).0);
      few_short = omega (arith, i.few_short, n.links, n.short, (once c.visit-end.result).1);
      failed = λ some. rose_more _ _ _ (i.failed (omega (arith, some, n.faults))) (omega (arith, e.count, v.count));
      broken = broke c.visit-end.result c.turns.work.broken c.count.new.self.broken _ (g.D.Door.lost c.next.new.self) _ n.broken (λ some. rose_more _ (g.D.Door.lost c.turns.door) _ (i.broken some) (omega (arith, e.lost))) v.lost v.broken (omega (arith, i.lost, e.lost));
      count = omega (arith, i.count, e.count, v.count);
      lost = omega (arith, i.lost, e.lost, v.lost);
    }

pub turns-preserved : goal.turns-preserved
turns-preserved g c =
    let i = c.turns.invariant in
    let e = c.in-Err.ensures in
    let some_left : (g.D.Door.left c.turns.door ≡ 0) → ⊥ = λ none. absurd (let x = e.end.1 none in cc) in record {
      own = i.own;
      same = i.same;
      so_far = one_failed (number c.args.pass.now) (seen c.args.pass.now) (g.D.Door.ahead c.args.door.now) (g.D.Door.gone c.args.door.now) (seen c.turns.pass)
          (g.D.Door.ahead c.turns.door) (g.D.Door.ahead c.next.new.self) (g.D.Door.gone c.turns.door) c.turns.work.links c.turns.work.faults c.turns.work.broken c.turns.work.short i.so_far
          (g.D.Door.gone c.next.new.self) e.gone e.failed;
      legal = i.legal;
      left = omega (arith, i.left, e.left, some_left);
      few_broken = i.few_broken;
      few_short = i.few_short;
      failed = λ some. rose_later _ _ _ i.count e.cause;
      broken = λ some. rose_more _ (g.D.Door.lost c.turns.door) _ (i.broken some) (omega (arith, e.lost));
      count = omega (arith, i.count, e.count);
      lost = omega (arith, i.lost, e.lost);
    }
