use Rattle.std.proofs.Common.{◌≡◌, ℕ, List, drop, get_or, Some, sym, ap, ◌∙◌, string_bytes}
use Rattle.query_lexer.proofs.TextSpans.{quote_cut, content_ends, content_stops}
use Rattle.query_lexer.proofs.texts.content_of.Goals as goal

-- the byte in front
first : (rest bytes : List ℕ) (a n : ℕ) → bytes ≡ rest → a ≡ get_or bytes 0 0 → a ≡ n → get_or rest 0 0 ≡ n
first rest bytes a n same is at = ap (λ (l : List ℕ). get_or l 0 0) (sym same) ∙ sym is ∙ at

pub as_bytes-requires-text-self : goal.as_bytes-requires-text-self
as_bytes-requires-text-self c = λ _. c.escapes.invariant.utf8

pub escaped-requires : goal.escaped-requires
escaped-requires c = first c.escapes.rest.now c.as_bytes.result.now c.byte_at.result 92 c.as_bytes.ensures.value c.byte_at.ensures c.escapes-test.true

pub split_at-requires : goal.split_at-requires
split_at-requires c =
    quote_cut c.escapes.rest.now c.escapes.invariant.utf8
    (first c.escapes.rest.now c.as_bytes-2.result.now c.byte_at-2.result 39 c.as_bytes-2.ensures.value c.byte_at-2.ensures c.if-byte_at-eq39.true)

pub returns-then-byte_at-eq39 : goal.returns-then-byte_at-eq39
returns-then-byte_at-eq39 c =
    content_ends c.args.text.now c.escapes.rest.now (string_bytes c.escapes.content) c.escapes.invariant.same
    (first c.escapes.rest.now c.as_bytes-2.result.now c.byte_at-2.result 39 c.as_bytes-2.ensures.value c.byte_at-2.ensures c.if-byte_at-eq39.true)
    ∙ ap (λ (l : List ℕ). Some (l, drop 1 c.escapes.rest.now)) (sym c.from_string.ensures)
    ∙ ap (λ (l : List ℕ). Some (c.from_string.result, l)) (sym c.split_at.ensures.back)

pub returns : goal.returns
returns c =
    let rest = c.escapes.rest.now in
    content_stops c.args.text.now rest (string_bytes c.escapes.content) c.escapes.invariant.same c.escapes.invariant.stops
    (λ e. c.if-byte_at-eq39.false (c.byte_at-2.ensures ∙ ap (λ (l : List ℕ). get_or l 0 0) c.as_bytes-2.ensures.value ∙ e))
    (λ e. c.escapes-test.false (c.byte_at.ensures ∙ ap (λ (l : List ℕ). get_or l 0 0) c.as_bytes.ensures.value ∙ e))
