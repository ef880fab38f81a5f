use Rattle.std.proofs.Common.{◌≡◌, ◌<◌, ◌≤◌, ℕ, List, length, drop, get_or, true, sym, ap, ◌∙◌, subst}
use Rattle.query_lexer.specs.Machinery.Spans.{is_plain, prepend, quoted_content}
use Rattle.query_lexer.proofs.TextSpans.{plain_front}
use Rattle.query_lexer.proofs.texts.plain_run.Goals as goal

pub returns-clause-same : goal.returns-clause-same
returns-clause-same c =
    let text = c.args.text.now in
    let n = c.plain_len.result in
    let same = c.as_bytes.ensures.value in
    let within = subst (λ (l : List ℕ). n ≤ length l) same c.plain_len.ensures.within in
    let all = subst (λ (l : List ℕ). (k : ℕ) → k < n → is_plain (get_or l k 0) ≡ true) same c.plain_len.ensures.all in
    plain_front text n within all
    ∙ ap (λ (l : List ℕ). prepend l (quoted_content (drop n text))) (sym c.split_at.ensures.front)
    ∙ ap (λ (l : List ℕ). prepend c.split_at.result.0.now (quoted_content l)) (sym c.split_at.ensures.back)
