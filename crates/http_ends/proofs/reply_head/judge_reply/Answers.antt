use Rattle.std.proofs.Common.{sym}
use Rattle.httparse.specs.Spans.{IsResponseWithin, IsResponseOf}
use Rattle.httparse.proofs.HeadLemmas.{at_complete}
use Rattle.http_ends.proofs.ReplyLemmas.{reply_found, reply_refused}
use Rattle.http_ends.proofs.reply_head.judge_reply.Goals as goal

pub returns-in-Some : goal.returns-in-Some
returns-in-Some c =
    let within = at_complete (IsResponseWithin c.args.bytes.now c.parse_response.new.headers) c.in-Ok-Complete.is c.in-Ok-Complete.field-0-is c.parse_response.ensures.within in
    let complete = at_complete (IsResponseOf c.args.bytes.now c.parse_response.new.headers) c.in-Ok-Complete.is c.in-Ok-Complete.field-0-is c.parse_response.ensures.complete in
    reply_found c.args.bytes.now c.parse_response.new.headers c.in-Ok-Complete.spans c.in-Some.body c.find_named.result within complete c.parse_response.auto.headers (sym c.in-Some.ensures) c.find_named.ensures

pub returns-in-None : goal.returns-in-None
returns-in-None c =
    let complete = at_complete (IsResponseOf c.args.bytes.now c.parse_response.new.headers) c.in-Ok-Complete.is c.in-Ok-Complete.field-0-is c.parse_response.ensures.complete in
    reply_refused c.args.bytes.now c.parse_response.new.headers c.in-Ok-Complete.spans complete (sym c.in-None.ensures)
