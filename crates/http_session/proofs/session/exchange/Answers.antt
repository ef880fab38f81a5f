use Rattle.std.proofs.Common.{[], ◌||◌, take, Err, refl, sym, ap, ◌∙◌, inr, option_to_list}
use Rattle.std.proofs.KnownBytes.{Appends-nil}
use Rattle.http_session.specs.Answers.{answer_text}
use Rattle.http_session.proofs.Stretches.{in_hand}
use Rattle.http_session.proofs.session.exchange.Goals as goal

pub returns-in-Err-WriteFault-clause-exchanges : goal.returns-in-Err-WriteFault-clause-exchanges
returns-in-Err-WriteFault-clause-exchanges g c =
    let told = c.in-Ok.ensures.answers in
    let short = rw (c.is_closing-closing.ensures, c.asks_head-head_only.ensures) at (c.write_response.ensures.part (c.in-Err-WriteFault.is ∙ ap Err c.in-Err-WriteFault.field-0-is)) in
    let text = answer_text c.args.request.now c.in-Ok.answer.response (c.args.request.now.close || c.args.last) in (
      option_to_list told.0,
      take short.0 text,
      record { goes_by = told.1; appended = short.2 },
      (text, (told.0, c.in-Ok.answer.response, told.2, refl, refl), (short.0, short.1, refl)),
    )

pub returns-in-Err-OutOfMemory-clause-exchanges : goal.returns-in-Err-OutOfMemory-clause-exchanges
returns-in-Err-OutOfMemory-clause-exchanges g c =
    let told = c.in-Ok.ensures.answers in
    let hand = in_hand g.D.Service.goes g.D.Service.own g.D.Service.enters c.args.request.now told.0 c.in-Ok.answer.response (sym told.3 ∙ c.if-answer.true) told.2 in
    let same = c.write_response.ensures.nothing (c.in-Err-OutOfMemory.is ∙ ap Err c.in-Err-OutOfMemory.field-0-is) in (
      option_to_list told.0,
      [],
      record { goes_by = told.1; appended = rw same (Appends-nil (g.K.Sink.taken c.args.sink.now)) },
      inr (hand.0, hand.1, hand.2, hand.3, refl),
    )
