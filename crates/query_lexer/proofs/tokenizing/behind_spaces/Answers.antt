use Rattle.std.proofs.Common.{◌≡◌, ◌<◌, ◌≤◌, ℕ, List, length, get_or, true, sym, subst}
use Rattle.query_terms.specs.tokens.Spellings.{is_space, SkipsSpaces}
use Rattle.query_lexer.proofs.Cuts.{behind_ascii, space_low, spaces_in_front}
use Rattle.query_lexer.proofs.tokenizing.behind_spaces.Goals as goal

pub split_at-requires : goal.split_at-requires
split_at-requires c =
    let n = c.space_len.result in
    let same = c.as_bytes.ensures.value in
    let within = subst (λ (l : List ℕ). n ≤ length l) same c.space_len.ensures.within in
    let all = subst (λ (l : List ℕ). (k : ℕ) → k < n → is_space (get_or l k 0) ≡ true) same c.space_len.ensures.all in
    behind_ascii c.args.text.now n c.utf8.text within (λ k lt. space_low _ (all k lt))

pub returns-clause-spaces : goal.returns-clause-spaces
returns-clause-spaces c =
    let n = c.space_len.result in
    let same = c.as_bytes.ensures.value in
    let within = subst (λ (l : List ℕ). n ≤ length l) same c.space_len.ensures.within in
    let all = subst (λ (l : List ℕ). (k : ℕ) → k < n → is_space (get_or l k 0) ≡ true) same c.space_len.ensures.all in
    subst (λ (l : List ℕ). SkipsSpaces c.args.text.now l) (sym c.split_at.ensures.back) (spaces_in_front c.args.text.now n within all)
