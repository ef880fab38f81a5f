use Rattle.std.proofs.Common.{ℕ, List, take, sym, subst}
use Rattle.json_decimal.specs.Decimals.{number_of}
use Rattle.json_decimal.specs.Literal.{IsLiteralOf}
use Rattle.query_terms.specs.declared.tokens.token.Token.TheVariants as tokens
use Rattle.query_terms.specs.tokens.Spellings.{IsLongest}
use Rattle.query_lexer.specs.Machinery.Spans.{IsBound, NoneLonger}
use Rattle.query_lexer.proofs.Cuts.{behind_ascii, number_low}
use Rattle.query_lexer.proofs.NumberSpans.{number_longest, number_none}
use Rattle.query_lexer.proofs.numbers.number_of.Goals as goal

pub split_at-requires : goal.split_at-requires
split_at-requires c =
    let h = c.in-Some.ensures in
    let bound = subst (λ (l : List ℕ). IsBound l c.in-Some.end) c.as_bytes.ensures.value h.0 in
    behind_ascii c.args.text.now c.in-Some.end c.utf8.text bound.within (λ k lt. number_low _ (bound.all k lt))

pub returns-in-Some : goal.returns-in-Some
returns-in-Some c =
    let h = c.in-Some.ensures in
    let bound = subst (λ (l : List ℕ). IsBound l c.in-Some.end) c.as_bytes.ensures.value h.0 in
    let is = subst (λ (l : List ℕ). IsLiteralOf (take c.in-Some.end l) (number_of c.in-Some.number)) c.as_bytes.ensures.value h.1 in
    subst (λ (l : List ℕ). IsLongest c.args.text.now (tokens.Number c.in-Some.number) l) (sym c.split_at.ensures.back)
    (number_longest c.args.text.now c.in-Some.end c.in-Some.number c.requires bound.within is h.2 bound.none)

pub returns-in-None : goal.returns-in-None
returns-in-None c =
    number_none c.args.text.now c.requires (subst (λ (l : List ℕ). NoneLonger l 0) c.as_bytes.ensures.value c.in-None.ensures)
