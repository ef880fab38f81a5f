use Rattle.std.proofs.Common.{◌≡◌, ◌+◌, length, Ok, Err, inl, inr, refl, sym, ap, ◌∙◌, subst, arith}
use Rattle.std.specs.Prelude.{IsUtf8}
use Rattle.std.specs.Io.KnownBytes.{IsAtEnd}
use Rattle.std.proofs.lemmas.Result.{err_from_is_err_and}
use Rattle.httparse.specs.Spans.{span_bytes}
use Rattle.httparse.proofs.RunLemmas.{length-slice_range}
use Rattle.http_ends.specs.declared.request.HttpEnd.TheVariants.{BodyTooLong, TransferCoding, CutOff, ReadFault, OutOfMemory}
use Rattle.http_ends.specs.declared.buffer.Filled.TheVariants.{Ended, Failed}
use Rattle.http_ends.specs.Streams.{ReadsNext}
use Rattle.http_ends.proofs.ReadingLemmas.{Reads-trans, on_streams}
use Rattle.http_ends.proofs.MessageLemmas.{IsHeadAt-append, is_coded, is_too_long, is_cut_off, IsMadeOf, is_message, held, unread, head_ends, token_text, target_within}
use Rattle.http_ends.proofs.requests.next_request.Given.{Over}
use Rattle.http_ends.proofs.requests.next_request.Goals as goal

pub returns-in_err-head-clause-next : goal.returns-in_err-head-clause-next
returns-in_err-head-clause-next g c =
    let p = err_from_is_err_and c.from_residual.result c.from_residual.ensures.1 in
    let read = c.read_head.ensures.read in
    rw (p.1, p.2) (head_ends c.args.buffer.now (g.S.Source.left c.args.link.now) c.read_head.new.buffer (g.S.Source.left c.read_head.new.link) read.bytes c.in_err-head.field-0.0 read.grown read.taken c.in_err-head.ensures.why)

pub returns-then-head-clause-next : goal.returns-then-head-clause-next
returns-then-head-clause-next g c =
    let read = c.read_head.ensures.read in
    let found = c.in_ok-head.ensures.head in
    on_streams c.args.buffer.now (g.S.Source.left c.args.link.now) c.read_head.new.buffer c.read_head.new.buffer (g.S.Source.left c.read_head.new.link) read.bytes (ReadsNext (Err TransferCoding)) read.grown read.taken
    (λ more is. (is_coded c.read_head.new.buffer more c.in_ok-head.head found.0 found.1 c.if-head.true, refl))

pub returns-then-head-gt-MOST_BODY-clause-next : goal.returns-then-head-gt-MOST_BODY-clause-next
returns-then-head-gt-MOST_BODY-clause-next g c =
    let read = c.read_head.ensures.read in
    let found = c.in_ok-head.ensures.head in
    on_streams c.args.buffer.now (g.S.Source.left c.args.link.now) c.read_head.new.buffer c.read_head.new.buffer (g.S.Source.left c.read_head.new.link) read.bytes (ReadsNext (Err BodyTooLong)) read.grown read.taken
    (λ more is. (is_too_long c.read_head.new.buffer more c.in_ok-head.head found.0 found.1 c.if-head.false c.if-head-gt-MOST_BODY.true, refl))

pub returns-in_err-await_body-clause-unread : goal.returns-in_err-await_body-clause-unread
returns-in_err-await_body-clause-unread g c =
    unread c.args.link.now c.read_head.new.link c.await_body.new.link c.args.buffer.now c.read_head.new.buffer c.await_body.new.buffer c.in_ok-head.head c.in_ok-head.ensures.head c.if-head.false c.if-head-gt-MOST_BODY.false
    c.read_head.ensures.unread c.await_body.ensures.unread

pub returns-in-Ended-clause-unread : goal.returns-in-Ended-clause-unread
returns-in-Ended-clause-unread g c =
    unread c.args.link.now c.read_head.new.link c.await_body.new.link c.args.buffer.now c.read_head.new.buffer c.await_body.new.buffer c.in_ok-head.head c.in_ok-head.ensures.head c.if-head.false c.if-head-gt-MOST_BODY.false
    c.read_head.ensures.unread c.await_body.ensures.unread

pub returns-in-Failed-clause-unread : goal.returns-in-Failed-clause-unread
returns-in-Failed-clause-unread g c =
    unread c.args.link.now c.read_head.new.link c.await_body.new.link c.args.buffer.now c.read_head.new.buffer c.await_body.new.buffer c.in_ok-head.head c.in_ok-head.ensures.head c.if-head.false c.if-head-gt-MOST_BODY.false
    c.read_head.ensures.unread c.await_body.ensures.unread

pub returns-in_err-request-clause-unread : goal.returns-in_err-request-clause-unread
returns-in_err-request-clause-unread g c =
    unread c.args.link.now c.read_head.new.link c.await_body.new.link c.args.buffer.now c.read_head.new.buffer c.await_body.new.buffer c.in_ok-head.head c.in_ok-head.ensures.head c.if-head.false c.if-head-gt-MOST_BODY.false
    c.read_head.ensures.unread c.await_body.ensures.unread

pub returns-clause-unread : goal.returns-clause-unread
returns-clause-unread g c =
    unread c.args.link.now c.read_head.new.link c.await_body.new.link c.args.buffer.now c.read_head.new.buffer c.await_body.new.buffer c.in_ok-head.head c.in_ok-head.ensures.head c.if-head.false c.if-head-gt-MOST_BODY.false
    c.read_head.ensures.unread c.await_body.ensures.unread

pub returns-in-Ended-clause-next : goal.returns-in-Ended-clause-next
returns-in-Ended-clause-next g c =
    let read = Reads-trans g.S.Source.left g.S.Source.aside g.S.Source.faults c.read_head.ensures.read c.await_body.ensures.read in
    let at = IsHeadAt-append c.read_head.new.buffer c.await_body.ensures.read.bytes c.await_body.new.buffer c.in_ok-head.head c.in_ok-head.ensures.head.0 c.await_body.ensures.read.grown c.in_ok-head.ensures.head.1 in
    let ended : c.await_body.result ≡ Ok Ended = c.in_ok-await_body.was ∙ ap Ok c.in-Ended.is in
    let end : IsAtEnd (g.S.Source.left c.await_body.new.link) = c.await_body.ensures.ended ended in
    on_streams c.args.buffer.now (g.S.Source.left c.args.link.now) c.await_body.new.buffer c.await_body.new.buffer (g.S.Source.left c.await_body.new.link) read.bytes (ReadsNext (Err CutOff)) read.grown read.taken
    (λ more is. (is_cut_off c.await_body.new.buffer more c.in_ok-head.head c.in_ok-head.ensures.head.0 at c.if-head.false c.if-head-gt-MOST_BODY.false (c.await_body.ensures.short (inl ended)) (subst IsAtEnd is end), refl))

pub returns-in-Failed-clause-fault : goal.returns-in-Failed-clause-fault
returns-in-Failed-clause-fault g c = λ is holds.
    let at = IsHeadAt-append c.read_head.new.buffer c.await_body.ensures.read.bytes c.await_body.new.buffer c.in_ok-head.head c.in_ok-head.ensures.head.0 c.await_body.ensures.read.grown c.in_ok-head.ensures.head.1 in
    let failed : c.await_body.result ≡ Ok Failed = c.in_ok-await_body.was ∙ ap Ok c.in-Failed.is in
    let room = held c.await_body.new.buffer c.in_ok-head.head c.in_ok-head.ensures.head.0 at c.if-head.false c.if-head-gt-MOST_BODY.false holds in
    omega (arith, room, c.await_body.ensures.short (inr failed))

pub returns-in_err-await_body-clause-next : goal.returns-in_err-await_body-clause-next
returns-in_err-await_body-clause-next g c =
    let p = err_from_is_err_and c.from_residual-in_err-await_body.result c.from_residual-in_err-await_body.ensures.1 in
    let read = Reads-trans g.S.Source.left g.S.Source.aside g.S.Source.faults c.read_head.ensures.read c.await_body.ensures.read in
    rw (p.1, p.2) (on_streams c.args.buffer.now (g.S.Source.left c.args.link.now) c.await_body.new.buffer c.await_body.new.buffer (g.S.Source.left c.await_body.new.link) read.bytes (ReadsNext (Err OutOfMemory)) read.grown read.taken (λ more is. refl))

pub returns-in-Failed-clause-next : goal.returns-in-Failed-clause-next
returns-in-Failed-clause-next g c =
    let read = Reads-trans g.S.Source.left g.S.Source.aside g.S.Source.faults c.read_head.ensures.read c.await_body.ensures.read in
    on_streams c.args.buffer.now (g.S.Source.left c.args.link.now) c.await_body.new.buffer c.await_body.new.buffer (g.S.Source.left c.await_body.new.link) read.bytes (ReadsNext (Err ReadFault)) read.grown read.taken (λ more is. refl)

pub returns-in_err-request-clause-next : goal.returns-in_err-request-clause-next
returns-in_err-request-clause-next g c =
    let p = err_from_is_err_and c.from_residual-in_err-request.result c.from_residual-in_err-request.ensures.1 in
    let read = Reads-trans g.S.Source.left g.S.Source.aside g.S.Source.faults c.read_head.ensures.read c.await_body.ensures.read in
    rw (p.1, p.2) (on_streams c.args.buffer.now (g.S.Source.left c.args.link.now) c.await_body.new.buffer c.await_body.new.buffer (g.S.Source.left c.await_body.new.link) read.bytes (ReadsNext (Err OutOfMemory)) read.grown read.taken (λ more is. refl))

pub request_of-requires-clause-method : goal.request_of-requires-clause-method
request_of-requires-clause-method g c =
    let at = IsHeadAt-append c.read_head.new.buffer c.await_body.ensures.read.bytes c.await_body.new.buffer c.in_ok-head.head c.in_ok-head.ensures.head.0 c.await_body.ensures.read.grown c.in_ok-head.ensures.head.1 in
    let h = c.in_ok-head.ensures.head.0 in
    let text : IsUtf8 (span_bytes c.await_body.new.buffer c.in_ok-head.head.method) = subst IsUtf8 (sym at.method) (token_text h.method at.begins.reads.0.method) in
    ((at.method_within.0, omega (arith, at.method_within.1, at.fits, ap length c.as_slice.ensures)), subst (λ bs. IsUtf8 (span_bytes bs c.in_ok-head.head.method)) (sym c.as_slice.ensures) text)

-- the head stands at the front, and the request was made of it
made : (g : Over) (c : goal.After-consume g) → IsMadeOf c.in_ok-request.request c.await_body.new.buffer c.in_ok-head.head
made g c =
    let facts : IsMadeOf c.in_ok-request.request c.as_slice.result.now c.in_ok-head.head = record {
      method = c.in_ok-request.ensures.method;
      path = c.in_ok-request.ensures.path;
      query = c.in_ok-request.ensures.query;
      body = c.in_ok-request.ensures.body;
      close = c.in_ok-request.ensures.close;
    } in
    subst (λ bs. IsMadeOf c.in_ok-request.request bs c.in_ok-head.head) c.as_slice.ensures facts

pub returns-clause-next : goal.returns-clause-next
returns-clause-next g c =
    let read = Reads-trans g.S.Source.left g.S.Source.aside g.S.Source.faults c.read_head.ensures.read c.await_body.ensures.read in
    let at = IsHeadAt-append c.read_head.new.buffer c.await_body.ensures.read.bytes c.await_body.new.buffer c.in_ok-head.head c.in_ok-head.ensures.head.0 c.await_body.ensures.read.grown c.in_ok-head.ensures.head.1 in
    let room = c.await_body.ensures.more (c.in_ok-await_body.was ∙ ap Ok c.in-More.is) in
    on_streams c.args.buffer.now (g.S.Source.left c.args.link.now) c.await_body.new.buffer c.consume.new.self (g.S.Source.left c.await_body.new.link) read.bytes (ReadsNext (Ok c.in_ok-request.request)) read.grown read.taken
    (λ more is. rw c.consume.ensures (is_message c.await_body.new.buffer more c.in_ok-head.head c.in_ok-head.ensures.head.0 c.in_ok-request.request at c.if-head.false c.if-head-gt-MOST_BODY.false room (made g c)))

pub returns-clause-within : goal.returns-clause-within
returns-clause-within g c =
    let at = IsHeadAt-append c.read_head.new.buffer c.await_body.ensures.read.bytes c.await_body.new.buffer c.in_ok-head.head c.in_ok-head.ensures.head.0 c.await_body.ensures.read.grown c.in_ok-head.ensures.head.1 in
    let room = c.await_body.ensures.more (c.in_ok-await_body.was ∙ ap Ok c.in-More.is) in
    let size = length-slice_range c.await_body.new.buffer c.in_ok-head.head.len (c.in_ok-head.head.len + c.in_ok-head.head.body) (omega arith) room in
    (target_within c.await_body.new.buffer c.in_ok-head.head c.in_ok-head.ensures.head.0 c.in_ok-request.request at (made g c), omega (arith, ap length (made g c).body, size, c.if-head-gt-MOST_BODY.false))
