use Rattle.std.proofs.Common.{rules, ◌≡◌, sym, ap, ◌∙◌, subst}
use Rattle.std.specs.Prelude.{Some}
use Rattle.one_history.specs.Histories.{state_after}
use Rattle.one_history.proofs.Asked.{slot_taken, found_object, given_back, one_served}
use Rattle.one_history.proofs.shared.Shared.serve.Goals as goal

pub exchange-requires : goal.exchange-requires
exchange-requires g c = let r = c.requires.ready in (search rules, (Some r.2, slot_taken r.0 r.1 r.2 _ r.3))

pub enter-requires-clause-ready : goal.enter-requires-clause-ready
enter-requires-clause-ready g c = let r = c.requires.ready in
    let same = found_object r.0 r.1 r.2 _ _ c.in-Some.object r.3 c.exchange.ensures.2 c.in-Some.is in
    let at : g.O.Object.state c.in-Some.object ≡ state_after g.O.Object.follows (g.O.Object.state r.0.opening) r.0.seen = ap g.O.Object.state (sym same) ∙ r.4 in (
      r.0,
      r.1,
      c.step-answer.new.self,
      given_back r.0 r.1 r.2 c.step-answer.new.self _ _ _ _ r.3 c.exchange.ensures.3 c.exchange-nothing.ensures.3,
      c.requires.sound,
      subst (λ (z : g.O.Object.State). g.O.Object.allowed z c.args.ask.now c.in-Ok.reply) at c.in-Ok.ensures.allowed,
      c.in-Ok.ensures.follows ∙ ap (λ (z : g.O.Object.State). g.O.Object.follows z c.args.ask.now c.in-Ok.reply) at,
    )

pub leave-requires-clause-ready : goal.leave-requires-clause-ready
leave-requires-clause-ready g c = let r = c.requires.ready in
    let same = found_object r.0 r.1 r.2 _ _ c.in-Some.object r.3 c.exchange.ensures.2 c.in-Some.is in
    let at : g.O.Object.state c.in-Some.object ≡ state_after g.O.Object.follows (g.O.Object.state r.0.opening) r.0.seen = ap g.O.Object.state (sym same) ∙ r.4 in (
      r.0,
      r.1,
      c.step-answer.new.self,
      given_back r.0 r.1 r.2 c.step-answer.new.self _ _ _ _ r.3 c.exchange.ensures.3 c.exchange-nothing.ensures.3,
      c.in-Err.ensures.unchanged ∙ at,
    )

pub returns-in-Ok-clause-answered : goal.returns-in-Ok-clause-answered
returns-in-Ok-clause-answered g c m t o is = let r = c.requires.ready in
    let same = found_object r.0 r.1 r.2 _ _ c.in-Some.object r.3 c.exchange.ensures.2 c.in-Some.is in
    let at : g.O.Object.state c.in-Some.object ≡ state_after g.O.Object.follows (g.O.Object.state r.0.opening) r.0.seen = ap g.O.Object.state (sym same) ∙ r.4 in
    let who = one_served r.0 m r.1 t r.2 o _ r.3 is in (
      c.enter.ensures.entered m t c.step-answer.new.self (given_back m t o c.step-answer.new.self _ _ _ _ is c.exchange.ensures.3 c.exchange-nothing.ensures.3),
      subst (λ (z : g.O.Object.State). g.O.Object.allowed z c.args.ask.now c.in-Ok.reply) (at ∙ (λ i. state_after g.O.Object.follows (g.O.Object.state (who i).opening) (who i).seen)) c.in-Ok.ensures.allowed,
    )

pub returns-in-Err-clause-refused : goal.returns-in-Err-clause-refused
returns-in-Err-clause-refused g c m t o is = c.leave.ensures.left m t c.step-answer.new.self (given_back m t o c.step-answer.new.self _ _ _ _ is c.exchange.ensures.3 c.exchange-nothing.ensures.3)
