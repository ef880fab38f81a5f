use Rattle.std.proofs.Common.{◌≡◌, ℕ, List, drop, get_or, Option, Some, None, sym, ap, ◌∙◌, subst}
use Rattle.std.specs.Str.{IsCharBoundary}
use Rattle.query_terms.specs.declared.tokens.token.Mark.{Mark}
use Rattle.query_terms.specs.declared.tokens.token.Token.TheVariants as tokens
use Rattle.query_terms.specs.tokens.Spellings.{IsLongest}
use Rattle.query_lexer.specs.Machinery.Spans.{mark_at}
use Rattle.query_lexer.proofs.MarkSpans.{mark_cut, mark_longest, mark_none}
use Rattle.query_lexer.proofs.tokenizing.mark_in_front.Goals as goal

-- the mark that is found in the text
found : (text bytes : List ℕ) (a b : ℕ) (o : Option Mark) → bytes ≡ text → a ≡ get_or bytes 0 0 → b ≡ get_or bytes 1 0 → o ≡ mark_at a b
    → mark_at (get_or text 0 0) (get_or text 1 0) ≡ o
found text bytes a b o same first second is =
    ap (λ (x : ℕ). mark_at x (get_or text 1 0)) (sym (first ∙ ap (λ (l : List ℕ). get_or l 0 0) same))
    ∙ ap (λ (x : ℕ). mark_at a x) (sym (second ∙ ap (λ (l : List ℕ). get_or l 1 0) same)) ∙ sym is

pub split_at-requires : goal.split_at-requires
split_at-requires c =
    let is = found c.args.text.now c.as_bytes-bytes.result.now c.byte_at.result c.byte_at-2.result (Some c.in-Some.mark) c.as_bytes-bytes.ensures.value
    c.byte_at.ensures c.byte_at-2.ensures c.in-Some.ensures in
    subst (λ (n : ℕ). IsCharBoundary c.args.text.now n) (sym c.mark_len.ensures) (mark_cut c.args.text.now c.in-Some.mark c.utf8.text is)

pub returns-in-Some : goal.returns-in-Some
returns-in-Some c =
    let is = found c.args.text.now c.as_bytes-bytes.result.now c.byte_at.result c.byte_at-2.result (Some c.in-Some.mark) c.as_bytes-bytes.ensures.value
    c.byte_at.ensures c.byte_at-2.ensures c.in-Some.ensures in
    subst (λ (l : List ℕ). IsLongest c.args.text.now (tokens.Mark c.in-Some.mark) l)
    (sym (c.split_at.ensures.back ∙ ap (λ (n : ℕ). drop n c.args.text.now) c.mark_len.ensures))
    (mark_longest c.args.text.now c.in-Some.mark c.requires.name c.requires.number c.requires.quote is)

pub returns-in-None : goal.returns-in-None
returns-in-None c =
    mark_none c.args.text.now c.requires.name c.requires.number c.requires.quote
    (found c.args.text.now c.as_bytes-bytes.result.now c.byte_at.result c.byte_at-2.result None c.as_bytes-bytes.ensures.value
    c.byte_at.ensures c.byte_at-2.ensures c.in-None.ensures)
