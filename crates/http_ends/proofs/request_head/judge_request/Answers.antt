use Rattle.std.proofs.Common.{length, sym, ap, ◌∙◌, subst}
use Rattle.std.proofs.lemmas.Bool.{eqb-true, eqb-false}
use Rattle.std.proofs.lemmas.List.{nil_from_length}
use Rattle.httparse.specs.Grammar.{HasNoRequest}
use Rattle.httparse.specs.Spans.{IsRequestWithin, IsRequestOf}
use Rattle.httparse.proofs.HeadLemmas.{at_complete}
use Rattle.http_ends.proofs.HeadLemmas.{no_head_in_nothing, head_found, head_refused}
use Rattle.http_ends.proofs.request_head.judge_request.Goals as goal

pub returns-then-is_empty : goal.returns-then-is_empty
returns-then-is_empty c =
    subst HasNoRequest (sym (nil_from_length c.args.bytes.now (eqb-true (length c.args.bytes.now) 0 (sym c.if-is_empty.ensures)))) no_head_in_nothing

pub returns-in-Some : goal.returns-in-Some
returns-in-Some c =
    let within = at_complete (IsRequestWithin c.args.bytes.now c.parse_request.new.headers) c.in-Ok-Complete.is c.in-Ok-Complete.field-0-is c.parse_request.ensures.within in
    let complete = at_complete (IsRequestOf c.args.bytes.now c.parse_request.new.headers) c.in-Ok-Complete.is c.in-Ok-Complete.field-0-is c.parse_request.ensures.complete in
    head_found c.args.bytes.now c.parse_request.new.headers c.in-Ok-Complete.spans c.in-Some.head within complete c.parse_request.auto.headers (sym c.in-Some.ensures)

pub returns-in-None : goal.returns-in-None
returns-in-None c =
    let within = at_complete (IsRequestWithin c.args.bytes.now c.parse_request.new.headers) c.in-Ok-Complete.is c.in-Ok-Complete.field-0-is c.parse_request.ensures.within in
    let complete = at_complete (IsRequestOf c.args.bytes.now c.parse_request.new.headers) c.in-Ok-Complete.is c.in-Ok-Complete.field-0-is c.parse_request.ensures.complete in (
      λ none. eqb-false (length c.args.bytes.now) 0 (sym c.is_empty.ensures ∙ c.if-is_empty.false) (ap length none),
      head_refused c.args.bytes.now c.parse_request.new.headers c.in-Ok-Complete.spans within complete (sym c.in-None.ensures),
    )
