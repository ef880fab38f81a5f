use Rattle.std.proofs.Common.{length, Some, refl}
use Rattle.http_tests.proofs.sessions.EchoService.answer.Goals as goal

pub returns-in-Ok-reply-clause-answers : goal.returns-in-Ok-reply-clause-answers
returns-in-Ok-reply-clause-answers c =
    let path = c.as_str-path.ensures in
    let pushed = rw path at c.in-Ok-push.ensures.ok in
    let replied = rw (c.as_bytes.ensures.value, path) at c.in-Ok-reply.ensures in
    (Some (length c.args.request.now.path), pushed, (refl, replied), refl)
