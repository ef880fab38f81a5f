use Rattle.std.proofs.Common.{◌≡◌, Ok, Err, inl, refl, ap, ◌∙◌, subst}
use Rattle.std.specs.Io.KnownBytes.{IsAtEnd}
use Rattle.std.proofs.lemmas.Result.{err_from_is_err_and}
use Rattle.http_ends.specs.declared.buffer.Filled.TheVariants.{Ended}
use Rattle.http_ends.specs.declared.response.ReplyEnd.TheVariants.{BadReply, ReadFault, OutOfMemory}
use Rattle.http_ends.specs.ReplyReading.{AnswersReply}
use Rattle.http_ends.proofs.ReadingLemmas.{Reads-trans, on_streams}
use Rattle.http_ends.proofs.ReplyLemmas.{IsReplyHeadAt-append, IsReplyOf, is_reply, no_reply_cut_off, reply_ends}
use Rattle.http_ends.proofs.client_replies.next_response.Goals as goal

pub returns-in_err-head-clause-next : goal.returns-in_err-head-clause-next
returns-in_err-head-clause-next g c =
    let p = err_from_is_err_and c.from_residual.result c.from_residual.ensures.1 in
    let read = c.read_reply_head.ensures.read in
    rw (p.1, p.2) (reply_ends c.args.buffer.now (g.S.Source.left c.args.link.now) c.read_reply_head.new.buffer (g.S.Source.left c.read_reply_head.new.link) read.bytes c.in_err-head.field-0.0 read.grown read.taken c.in_err-head.ensures.why)

pub returns-in-Ended-clause-next : goal.returns-in-Ended-clause-next
returns-in-Ended-clause-next g c =
    let read = Reads-trans g.S.Source.left g.S.Source.aside g.S.Source.faults c.read_reply_head.ensures.read c.await_body.ensures.read in
    let at = IsReplyHeadAt-append c.read_reply_head.new.buffer c.await_body.ensures.read.bytes c.await_body.new.buffer c.in_ok-head.head c.in_ok-head.ensures.head.0 c.await_body.ensures.read.grown c.in_ok-head.ensures.head.1 in
    let ended : c.await_body.result ≡ Ok Ended = c.in_ok-await_body.was ∙ ap Ok c.in-Ended.is in
    let end : IsAtEnd (g.S.Source.left c.await_body.new.link) = c.await_body.ensures.ended ended in
    on_streams c.args.buffer.now (g.S.Source.left c.args.link.now) c.await_body.new.buffer c.await_body.new.buffer (g.S.Source.left c.await_body.new.link) read.bytes (AnswersReply (Err BadReply)) read.grown read.taken
    (λ more is. (no_reply_cut_off c.await_body.new.buffer more c.in_ok-head.head c.in_ok-head.ensures.head.0 at (c.await_body.ensures.short (inl ended)) (subst IsAtEnd is end), refl))

pub returns-in_err-await_body-clause-next : goal.returns-in_err-await_body-clause-next
returns-in_err-await_body-clause-next g c =
    let p = err_from_is_err_and c.from_residual-in_err-await_body.result c.from_residual-in_err-await_body.ensures.1 in
    let read = Reads-trans g.S.Source.left g.S.Source.aside g.S.Source.faults c.read_reply_head.ensures.read c.await_body.ensures.read in
    rw (p.1, p.2) (on_streams c.args.buffer.now (g.S.Source.left c.args.link.now) c.await_body.new.buffer c.await_body.new.buffer (g.S.Source.left c.await_body.new.link) read.bytes (AnswersReply (Err OutOfMemory)) read.grown read.taken (λ more is. refl))

pub returns-in-Failed-clause-next : goal.returns-in-Failed-clause-next
returns-in-Failed-clause-next g c =
    let read = Reads-trans g.S.Source.left g.S.Source.aside g.S.Source.faults c.read_reply_head.ensures.read c.await_body.ensures.read in
    on_streams c.args.buffer.now (g.S.Source.left c.args.link.now) c.await_body.new.buffer c.await_body.new.buffer (g.S.Source.left c.await_body.new.link) read.bytes (AnswersReply (Err ReadFault)) read.grown read.taken (λ more is. refl)

pub returns-in_err-response-clause-next : goal.returns-in_err-response-clause-next
returns-in_err-response-clause-next g c =
    let p = err_from_is_err_and c.from_residual-in_err-response.result c.from_residual-in_err-response.ensures.1 in
    let read = Reads-trans g.S.Source.left g.S.Source.aside g.S.Source.faults c.read_reply_head.ensures.read c.await_body.ensures.read in
    rw (p.1, p.2) (on_streams c.args.buffer.now (g.S.Source.left c.args.link.now) c.await_body.new.buffer c.await_body.new.buffer (g.S.Source.left c.await_body.new.link) read.bytes (AnswersReply (Err OutOfMemory)) read.grown read.taken (λ more is. refl))

pub returns-clause-next : goal.returns-clause-next
returns-clause-next g c =
    let read = Reads-trans g.S.Source.left g.S.Source.aside g.S.Source.faults c.read_reply_head.ensures.read c.await_body.ensures.read in
    let at = IsReplyHeadAt-append c.read_reply_head.new.buffer c.await_body.ensures.read.bytes c.await_body.new.buffer c.in_ok-head.head c.in_ok-head.ensures.head.0 c.await_body.ensures.read.grown c.in_ok-head.ensures.head.1 in
    let room = c.await_body.ensures.more (c.in_ok-await_body.was ∙ ap Ok c.in-More.is) in
    let facts : IsReplyOf c.in_ok-response.response c.as_slice.result.now c.in_ok-head.head = record {
      status = c.in_ok-response.ensures.status;
      allow = c.in_ok-response.ensures.allow;
      body = c.in_ok-response.ensures.body;
    } in
    let made = subst (λ bs. IsReplyOf c.in_ok-response.response bs c.in_ok-head.head) c.as_slice.ensures facts in
    on_streams c.args.buffer.now (g.S.Source.left c.args.link.now) c.await_body.new.buffer c.consume.new.self (g.S.Source.left c.await_body.new.link) read.bytes (AnswersReply (Ok c.in_ok-response.response)) read.grown read.taken
    (λ more is. rw c.consume.ensures (is_reply c.await_body.new.buffer more c.in_ok-head.head c.in_ok-head.ensures.head.0 c.in_ok-response.response at room made))
