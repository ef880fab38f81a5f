use Rattle.std.proofs.Common.{◌≡◌, ◌<◌, ◌≤◌, ℕ, List, length, get_or, true, false, subst}
use Rattle.query_terms.specs.tokens.Spellings.{is_query_name_byte}
use Rattle.query_lexer.proofs.Cuts.{behind_ascii, name_low}
use Rattle.query_lexer.proofs.NameSpans.{IsNameRun, name_found}
use Rattle.query_lexer.proofs.tokenizing.name_in_front.Goals as goal

pub split_at-requires : goal.split_at-requires
split_at-requires c =
    let n = c.name_len.result in
    let same = c.as_bytes.ensures.value in
    let within = subst (λ (l : List ℕ). n ≤ length l) same c.name_len.ensures.within in
    let all = subst (λ (l : List ℕ). (k : ℕ) → k < n → is_query_name_byte (get_or l k 0) ≡ true) same c.name_len.ensures.all in
    behind_ascii c.args.text.now n c.utf8.text within (λ k lt. name_low _ (all k lt))

pub returns : goal.returns
returns c =
    let n = c.name_len.result in
    let same = c.as_bytes.ensures.value in
    let run : IsNameRun c.args.text.now n = record {
      start = c.requires;
      within = subst (λ (l : List ℕ). n ≤ length l) same c.name_len.ensures.within;
      all = subst (λ (l : List ℕ). (k : ℕ) → k < n → is_query_name_byte (get_or l k 0) ≡ true) same c.name_len.ensures.all;
      next = subst (λ (l : List ℕ). is_query_name_byte (get_or l n 0) ≡ false) same c.name_len.ensures.next;
    } in
    name_found c.args.text.now n c.split_at.result.0.now c.in_ok-name.name c.split_at.result.1.now c.word_of-word.result run
    c.split_at.ensures.front c.split_at.ensures.back c.in_ok-name.ensures c.word_of-word.ensures
