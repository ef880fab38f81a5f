use Rattle.std.proofs.Common.{[], ◌∷◌, ◌∙◌, subst}
use Rattle.one_history.specs.Passes.{IsWholeHistory}
use Rattle.one_history.proofs.Pairs.{asked_both}
use Rattle.one_history.proofs.tests.ask_and_ask.Goals as goal

pub returns : goal.returns
returns g c =
    let w = c.in-Ok-close_two.ensures in
    asked_both g.O.Object.state g.O.Object.sound g.O.Object.allowed g.O.Object.follows c.args.object c.in-Ok-close_two.object c.args.one.now c.args.two.now c.in-Ok-call.first c.in-Ok-call-2.second
    c.split-q.new.pass c.call.new.pass c.meet.new.a c.split-q.result c.meet.new.b c.call-2.new.pass w.0
    (c.split-q.ensures.old.1 ∙ c.in-Ok.ensures.first.0)
    (c.split-q.ensures.new.1 ∙ c.in-Ok.ensures.first.0)
    c.in-Ok-call.ensures.answered
    c.in-Ok-call.ensures.own.1.0
    c.meet.ensures.grow.0
    c.meet.ensures.own.1.0
    c.meet.ensures.grow.1
    c.meet.ensures.own.3.0
    c.meet.ensures.told.0
    c.in-Ok-call-2.ensures.answered
    c.in-Ok-call-2.ensures.own.1.0
    (subst (λ (z : g.row.O.Denot). IsWholeHistory g.O.Object.state g.O.Object.sound g.O.Object.allowed g.O.Object.follows z (c.meet.new.a ∷ c.call-2.new.pass ∷ []) c.in-Ok-close_two.object w.0) c.in-Ok.ensures.opened.0 w.1)
