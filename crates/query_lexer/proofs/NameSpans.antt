-- The longest name in front.
use Rattle.std.proofs.Common.{◌≡◌, ℕ, zero, suc, ◌<◌, ◌≤◌, List, [], ◌∷◌, ◌++◌, length, take, drop, get_or, true, false, refl, sym, ap, ◌∙◌, subst, arith}
use Rattle.std.specs.Prelude.{IsTrue}
use Rattle.std.specs.List.{AllByRecursion}
use Rattle.std.proofs.lemmas.List.{take-append-drop}
use Rattle.std.proofs.lemmas.Bool.Decides.{nat_tests}
use Rattle.query_terms.specs.declared.tokens.token.Token.{Token}
use Rattle.query_terms.specs.declared.tokens.token.Token.TheVariants as tokens
use Rattle.query_terms.specs.declared.tokens.token.Word.{Word}
use Rattle.query_terms.specs.tokens.Words.{word_of}
use Rattle.query_terms.specs.tokens.Spellings.{is_name_start, is_query_name_byte, IsQueryName, IsSpelling, IsLongest}
use Rattle.query_lexer.proofs.Cuts.{all_front, run_longest, first_behind}
use Rattle.query_lexer.proofs.FirstBytes.{kind_at, start_kind, same_kind}

start_byte : (b : ℕ) → is_name_start b ≡ true → is_query_name_byte b ≡ true
start_byte b h = grind (arith, nat_tests)

name_bytes : (name : List ℕ) → IsQueryName name → AllByRecursion (λ b. IsTrue (is_query_name_byte b)) name
name_bytes [] h = absurd h
name_bytes (b ∷ bs) h = (start_byte b h.0, h.1)

-- bytes of a name in front, up to the first that is none
pub record IsNameRun (text : List ℕ) (n : ℕ) : Type 0 where
  pub start : is_name_start (get_or text 0 0) ≡ true
  pub within : n ≤ length text
  pub all : (k : ℕ) → k < n → is_query_name_byte (get_or text k 0) ≡ true
  pub next : is_query_name_byte (get_or text n 0) ≡ false

is_name : (text : List ℕ) (n : ℕ) → IsNameRun text n → IsQueryName (take n text)
is_name [] n run = let s = run.start in cc
is_name (x ∷ xs) zero run = let s = start_byte x run.start in let t = run.next in absurd cc
is_name (x ∷ xs) (suc n) run =
    let within = run.within in
    (run.start, all_front (λ (b : ℕ). IsTrue (is_query_name_byte b)) xs n (omega (arith, within)) (λ k lt. run.all (suc k) (omega (arith, lt))))

longest_name : (text : List ℕ) (n : ℕ) → IsNameRun text n → (u : Token) (more rest : List ℕ) → IsSpelling u more → text ≡ more ++ rest
    → kind_at (get_or text 0 0) ≡ 0 → length more ≤ length (take n text)
longest_name text n run (tokens.Name w name) more rest s e k =
    run_longest is_query_name_byte (take n text) more (drop n text) rest (name_bytes more (subst IsQueryName (sym s.0) s.1)) (take-append-drop n text ∙ e)
    (ap is_query_name_byte (first_behind text n) ∙ run.next)
longest_name text n run (tokens.Number d) more rest s e k = let o = same_kind (tokens.Number d) text more rest s e in absurd cc
longest_name text n run (tokens.Text t m) more rest s e k = let o = same_kind (tokens.Text t m) text more rest s e in absurd cc
longest_name text n run (tokens.Mark m) more rest s e k = let o = same_kind (tokens.Mark m) text more rest s e in absurd cc

pub name_longest : (text : List ℕ) (n : ℕ) → IsNameRun text n → IsLongest text (tokens.Name (word_of (take n text)) (take n text)) (drop n text)
name_longest text n run = record {
  bytes = take n text;
  parts = sym (take-append-drop n text);
  spelled = (refl, is_name text n run, refl);
  longest = λ u more rest s e. longest_name text n run u more rest s e (start_kind (get_or text 0 0) run.start);
}

pub name_found : (text : List ℕ) (n : ℕ) (front name to : List ℕ) (w : Word) → IsNameRun text n → front ≡ take n text → to ≡ drop n text → name ≡ front
    → w ≡ word_of front → IsLongest text (tokens.Name w name) to
name_found text n front name to w run is rest same word =
    let front_name : name ≡ take n text = same ∙ is in
    let front_word : w ≡ word_of (take n text) = word ∙ ap word_of is in
    let whole : tokens.Name w name ≡ tokens.Name (word_of (take n text)) (take n text) =
    ap (λ (x : Word). tokens.Name x name) front_word ∙ ap (λ (l : List ℕ). tokens.Name (word_of (take n text)) l) front_name in
    subst (λ (t : Token). IsLongest text t to) (sym whole)
    (subst (λ (l : List ℕ). IsLongest text (tokens.Name (word_of (take n text)) (take n text)) l) (sym rest) (name_longest text n run))
