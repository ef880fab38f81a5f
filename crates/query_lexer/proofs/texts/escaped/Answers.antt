use Rattle.std.proofs.Common.{◌≡◌, ℕ, List, ◌∷◌, [], get_or, Option, Some, None, sym, ap, ◌∙◌, subst}
use Rattle.query_terms.specs.tokens.Spellings.{escape}
use Rattle.query_lexer.specs.Machinery.Spans.{prepend, quoted_content}
use Rattle.query_lexer.proofs.TextSpans.{escape_cut, escape_front, escape_none}
use Rattle.query_lexer.proofs.texts.escaped.Goals as goal

second : (text bytes : List ℕ) (a : ℕ) (o : Option ℕ) → bytes ≡ text → a ≡ get_or bytes 1 0 → o ≡ escape a → escape (get_or text 1 0) ≡ o
second text bytes a o same first is = ap escape (sym (first ∙ ap (λ (l : List ℕ). get_or l 1 0) same)) ∙ sym is

pub split_at-requires : goal.split_at-requires
split_at-requires c =
    escape_cut c.args.text.now c.in-Some.character c.utf8.text c.requires
    (second c.args.text.now c.as_bytes.result.now c.byte_at.result (Some c.in-Some.character) c.as_bytes.ensures.value c.byte_at.ensures c.in-Some.ensures)

pub returns-in-Some-clause-same : goal.returns-in-Some-clause-same
returns-in-Some-clause-same c =
    subst (λ (l : List ℕ). quoted_content c.args.text.now ≡ prepend (c.in-Some.character ∷ []) (quoted_content l)) (sym c.split_at.ensures.back)
    (escape_front c.args.text.now c.in-Some.character c.requires
    (second c.args.text.now c.as_bytes.result.now c.byte_at.result (Some c.in-Some.character) c.as_bytes.ensures.value c.byte_at.ensures c.in-Some.ensures))

pub returns-in-None-clause-same : goal.returns-in-None-clause-same
returns-in-None-clause-same c =
    escape_none c.args.text.now c.requires
    (second c.args.text.now c.as_bytes.result.now c.byte_at.result None c.as_bytes.ensures.value c.byte_at.ensures c.in-None.ensures)
