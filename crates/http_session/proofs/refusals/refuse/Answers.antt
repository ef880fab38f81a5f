use Rattle.std.proofs.Common.{take, Err, refl, ap, ◌∙◌}
use Rattle.http_session.specs.Refusals.{error, refusal_text}
use Rattle.http_session.proofs.refusals.refuse.Goals as goal

pub returns-in-Err-WriteFault-clause-refuses : goal.returns-in-Err-WriteFault-clause-refuses
returns-in-Err-WriteFault-clause-refuses g c =
    let short = rw c.in-Ok.ensures at (c.write_response.ensures.part (c.in-Err-WriteFault.is ∙ ap Err c.in-Err-WriteFault.field-0-is)) in
    (take short.0 (refusal_text (error c.args.status c.args.body.now)), short.2, (short.0, short.1, refl))
