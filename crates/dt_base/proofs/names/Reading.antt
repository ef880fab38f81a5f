-- From what a walk tells to what the grammar says: which beginnings go on, and where a text is first wrong.
use Rattle.std.proofs.Common.{◌≡◌, ℕ, ◌+◌, ◌-◌, ◌*◌, ◌≤◌, Bool, true, false, cond, ◌||◌, ◌&&◌, ◌==◌, nat_le, nat_lt, Option, Some, None, List, [], ◌∷◌, ◌++◌, length, take, drop, refl, sym, ap, ◌∙◌, subst, arith, suc, length-append}
use Rattle.std.specs.Prelude.{MatchOption, ⊤, codes, IsTrue, ◌↔◌}
use Rattle.std.specs.Char.{is_ascii_alphabetic, is_ascii_alphanumeric, is_ascii_digit}
use Rattle.std.specs.Option.{option_and_then}
use Rattle.std.proofs.lemmas.List.{take-append-drop}
use Rattle.std.proofs.lemmas.Bool.{eqb-true, eq-eqb, false≢true}
use Rattle.dt_base.specs.declared.names.walk.State.{State}
use Rattle.dt_base.specs.declared.names.walk.State.TheVariants.{NameStart, NameWord, NameUnderscore, WantD, WantT, WantM, WantI, WantColon, SegmentStart, SegmentWord, SegmentUnderscore, VersionStart, Version}
use Rattle.dt_base.specs.declared.names.walk.Outcome.TheVariants as outcome
use Rattle.dt_base.specs.names.Grammar.{Identifier, is_name_byte, NameText, HasDtmiForm, IsDtmi}
use Rattle.dt_base.specs.names.Faults.{IsViable, IsFirstWrong, IsCutShort}
use Rattle.dt_base.specs.names.Machinery.Walking.{when, inside_name, step, need, run, ends, version_of, Lives, WalkTells}
use Rattle.dt_base.proofs.names.Runs.{run-append, Lives-from}
use Rattle.dt_base.proofs.names.Segments.{run-name, segment-from_run}
use Rattle.dt_base.proofs.names.Spelling.{run-form, form-from_run}

-- ---- steps
-- a fact of the state that a step leads to, if it leads anywhere
pub when_every : (b : Bool) (q : State) (P : State → Type 0) → (b ≡ true → P q) → MatchOption (when b q) ⊤ P
when_every true q P h = h refl
when_every false q P h = tt

pub inside_every : (c : ℕ) (word underscore : State) (P : State → Type 0) → ((is_name_byte c ≡ true) → P word × P underscore) → MatchOption (inside_name c word underscore) ⊤ P
inside_every c word underscore P h = go (is_ascii_alphanumeric c) (c == 95) h
  where
    go : (a u : Bool) → ((a || u) ≡ true → P word × P underscore) → MatchOption (cond a (Some word) (when u underscore)) ⊤ P
    go true u h = (h refl).0
    go false true h = (h refl).1
    go false false h = tt

-- a step from behind a word of a segment
pub word_every : (c : ℕ) (P : State → Type 0) → (c ≡ 58 → P SegmentStart) → (c ≡ 59 → P VersionStart) → ((is_name_byte c ≡ true) → P SegmentWord × P SegmentUnderscore)
    → MatchOption (step SegmentWord c) ⊤ P
word_every c P colon semicolon name = go (c == 58) (c == 59) refl refl
  where
    go : (x y : Bool) → x ≡ (c == 58) → y ≡ (c == 59) → MatchOption (cond x (Some SegmentStart) (cond y (Some VersionStart) (inside_name c SegmentWord SegmentUnderscore))) ⊤ P
    go true y ex ey = colon (eqb-true c 58 (sym ex))
    go false true ex ey = semicolon (eqb-true c 59 (sym ey))
    go false false ex ey = inside_every c SegmentWord SegmentUnderscore P name

need-step : (p : State) (c : ℕ) → MatchOption (step p c) ⊤ (λ q. need p ≤ suc (need q))
need-step NameStart c = when_every (is_ascii_alphabetic c) NameWord (λ q. 1 ≤ suc (need q)) (λ _. omega arith)
need-step NameWord c = inside_every c NameWord NameUnderscore (λ q. 0 ≤ suc (need q)) (λ _. (omega arith, omega arith))
need-step NameUnderscore c = inside_every c NameWord NameUnderscore (λ q. 1 ≤ suc (need q)) (λ _. (omega arith, omega arith))
need-step WantD c = when_every (c == 100) WantT (λ q. 8 ≤ suc (need q)) (λ _. omega arith)
need-step WantT c = when_every (c == 116) WantM (λ q. 7 ≤ suc (need q)) (λ _. omega arith)
need-step WantM c = when_every (c == 109) WantI (λ q. 6 ≤ suc (need q)) (λ _. omega arith)
need-step WantI c = when_every (c == 105) WantColon (λ q. 5 ≤ suc (need q)) (λ _. omega arith)
need-step WantColon c = when_every (c == 58) SegmentStart (λ q. 4 ≤ suc (need q)) (λ _. omega arith)
need-step SegmentStart c = when_every (is_ascii_alphabetic c) SegmentWord (λ q. 3 ≤ suc (need q)) (λ _. omega arith)
need-step SegmentWord c = word_every c (λ q. 2 ≤ suc (need q)) (λ _. omega arith) (λ _. omega arith) (λ _. (omega arith, omega arith))
need-step SegmentUnderscore c = inside_every c SegmentWord SegmentUnderscore (λ q. 3 ≤ suc (need q)) (λ _. (omega arith, omega arith))
need-step VersionStart c = when_every (nat_le 49 c && nat_le c 57) (Version (c - 48)) (λ q. 1 ≤ suc (need q)) (λ _. omega arith)
need-step (Version n) c = when_every (is_ascii_digit c && nat_lt n 100000000) (Version (n * 10 + (c - 48))) (λ q. 0 ≤ suc (need q)) (λ _. omega arith)

need_then : (p q : State) (cs : List ℕ) (o : Option State) → MatchOption o ⊤ (λ t. need p ≤ suc (need t))
    → ((t : State) → run t cs ≡ Some q → need t ≤ length cs + need q)
    → option_and_then (λ t. run t cs) o ≡ Some q → need p ≤ suc (length cs) + need q
need_then p q cs None m f e = cc
need_then p q cs (Some t) m f e = omega (arith, f t e)

need-run : (p q : State) (bytes : List ℕ) → run p bytes ≡ Some q → need p ≤ length bytes + need q
need-run p q [] e = let same : p ≡ q = cc in subst (λ (t : State). need p ≤ 0 + need t) same (omega arith)
need-run p q (c ∷ cs) e = need_then p q cs (step p c) (need-step p c) (λ t. need-run t q cs) e

-- a name's states lead to a name's states, and a DTMI's to a DTMI's
abbrev of_name : State → Bool
of_name NameStart = true
of_name NameWord = true
of_name NameUnderscore = true
of_name _ = false

kind-step : (p : State) (c : ℕ) → MatchOption (step p c) ⊤ (λ q. of_name q ≡ of_name p)
kind-step NameStart c = when_every (is_ascii_alphabetic c) NameWord (λ q. of_name q ≡ true) (λ _. refl)
kind-step NameWord c = inside_every c NameWord NameUnderscore (λ q. of_name q ≡ true) (λ _. (refl, refl))
kind-step NameUnderscore c = inside_every c NameWord NameUnderscore (λ q. of_name q ≡ true) (λ _. (refl, refl))
kind-step WantD c = when_every (c == 100) WantT (λ q. of_name q ≡ false) (λ _. refl)
kind-step WantT c = when_every (c == 116) WantM (λ q. of_name q ≡ false) (λ _. refl)
kind-step WantM c = when_every (c == 109) WantI (λ q. of_name q ≡ false) (λ _. refl)
kind-step WantI c = when_every (c == 105) WantColon (λ q. of_name q ≡ false) (λ _. refl)
kind-step WantColon c = when_every (c == 58) SegmentStart (λ q. of_name q ≡ false) (λ _. refl)
kind-step SegmentStart c = when_every (is_ascii_alphabetic c) SegmentWord (λ q. of_name q ≡ false) (λ _. refl)
kind-step SegmentWord c = word_every c (λ q. of_name q ≡ false) (λ _. refl) (λ _. refl) (λ _. (refl, refl))
kind-step SegmentUnderscore c = inside_every c SegmentWord SegmentUnderscore (λ q. of_name q ≡ false) (λ _. (refl, refl))
kind-step VersionStart c = when_every (nat_le 49 c && nat_le c 57) (Version (c - 48)) (λ q. of_name q ≡ false) (λ _. refl)
kind-step (Version n) c = when_every (is_ascii_digit c && nat_lt n 100000000) (Version (n * 10 + (c - 48))) (λ q. of_name q ≡ false) (λ _. refl)

kind_then : (p q : State) (cs : List ℕ) (o : Option State) → MatchOption o ⊤ (λ t. of_name t ≡ of_name p)
    → ((t : State) → run t cs ≡ Some q → of_name q ≡ of_name t)
    → option_and_then (λ t. run t cs) o ≡ Some q → of_name q ≡ of_name p
kind_then p q cs None m f e = cc
kind_then p q cs (Some t) m f e = f t e ∙ m

kind-run : (p q : State) (bytes : List ℕ) → run p bytes ≡ Some q → of_name q ≡ of_name p
kind-run p q [] e = let same : p ≡ q = cc in ap of_name (sym same)
kind-run p q (c ∷ cs) e = kind_then p q cs (step p c) (kind-step p c) (λ t. kind-run t q cs) e

-- ---- each state goes on to a text, with as many bytes as it needs
abbrev rest : State → List ℕ
rest NameStart = codes "a"
rest NameWord = []
rest NameUnderscore = codes "a"
rest WantD = codes "dtmi:a;1"
rest WantT = codes "tmi:a;1"
rest WantM = codes "mi:a;1"
rest WantI = codes "i:a;1"
rest WantColon = codes ":a;1"
rest SegmentStart = codes "a;1"
rest SegmentWord = codes ";1"
rest SegmentUnderscore = codes "a;1"
rest VersionStart = codes "1"
rest (Version _) = []

Completed : State → Type 0
Completed p = (q : State) × (run p (rest p) ≡ Some q) × (need q ≡ 0) × (length (rest p) ≡ need p)

completed : (p : State) → Completed p
unfolding Completed
completed NameStart = (NameWord, refl, refl, refl)
completed NameWord = (NameWord, refl, refl, refl)
completed NameUnderscore = (NameWord, refl, refl, refl)
completed WantD = (Version 1, refl, refl, refl)
completed WantT = (Version 1, refl, refl, refl)
completed WantM = (Version 1, refl, refl, refl)
completed WantI = (Version 1, refl, refl, refl)
completed WantColon = (Version 1, refl, refl, refl)
completed SegmentStart = (Version 1, refl, refl, refl)
completed SegmentWord = (Version 1, refl, refl, refl)
completed SegmentUnderscore = (Version 1, refl, refl, refl)
completed VersionStart = (Version 1, refl, refl, refl)
completed (Version n) = (Version n, refl, refl, refl)

-- ---- texts that the machine reads from a state within a bound
pub record Reads (Text : List ℕ → Type 0) (start : State) (bound : ℕ) : Type 0 where
  pub text : (bytes : List ℕ) (p : State) → run start bytes ≡ Some p → need p ≡ 0 → length bytes ≤ bound → Text bytes
  pub walked : (bytes : List ℕ) → Text bytes → (p : State) × (run start bytes ≡ Some p) × (need p ≡ 0) × (length bytes ≤ bound)

module _ (Text : List ℕ → Type 0) (start : State) (bound : ℕ) (reads : Reads Text start bound) where
  viable_at : (bytes : List ℕ) (o : Option State) → run start bytes ≡ o → MatchOption o ⊥ (λ p. length bytes + need p ≤ bound) → IsViable Text bytes
  viable_at bytes None e m = absurd m
  viable_at bytes (Some p) e m =
      let d : Completed p = completed p in
      unfold Completed in (
        rest p,
        reads.text (bytes ++ rest p) d.0 (run-append start bytes (rest p) ∙ ap (option_and_then (λ t. run t (rest p))) e ∙ d.1) d.2
            (omega (arith, length-append bytes (rest p), d.3)),
      )

  pub viable-from_lives : (bytes : List ℕ) → Lives start bound bytes → IsViable Text bytes
  viable-from_lives bytes l = viable_at bytes (run start bytes) refl l

  lives_at : (bytes more : List ℕ) (q : State) (o : Option State) → option_and_then (λ t. run t more) o ≡ Some q → need q ≡ 0 → length (bytes ++ more) ≤ bound
      → MatchOption o ⊥ (λ p. length bytes + need p ≤ bound)
  lives_at bytes more q None e z h = cc
  lives_at bytes more q (Some p) e z h = omega (arith, need-run p q more e, length-append bytes more)

  pub lives-from_viable : (bytes : List ℕ) → IsViable Text bytes → Lives start bound bytes
  lives-from_viable bytes v =
      let w = reads.walked (bytes ++ v.0) v.1 in
      lives_at bytes v.0 w.0 (run start bytes) (sym (run-append start bytes v.0) ∙ w.1) w.2 w.3

  pub first_wrong : (bytes : List ℕ) (at : ℕ) (p : State) → WalkTells start bound bytes (outcome.Wrong at p) → IsFirstWrong Text bytes at
  first_wrong bytes at p t = record {
    within = t.0;
    dead = λ v. t.2 (lives-from_viable (take (at + 1) bytes) v);
    least = λ n h. viable-from_lives (take (n + 1) bytes) (t.3 n h);
  }

  pub cut_short : (bytes : List ℕ) (p : State) → WalkTells start bound bytes (outcome.Whole p) → (need p ≡ 0 → ⊥) → IsCutShort Text bytes
  cut_short bytes p t more = record {
    viable = viable-from_lives bytes (Lives-from start p bound bytes t.0 t.1);
    none = λ x.
        let w = reads.walked bytes x in
        let same : w.0 ≡ p = cc in
        more (ap need (sym same) ∙ w.2);
  }

  pub text_at_end : (bytes : List ℕ) (p : State) → WalkTells start bound bytes (outcome.Whole p) → need p ≡ 0 → Text bytes
  text_at_end bytes p t z = reads.text bytes p t.0 z (omega (arith, t.1))

  -- what is a text is not wrong at any byte
  pub not_wrong : (bytes : List ℕ) (at : ℕ) (p : State) → Text bytes → WalkTells start bound bytes (outcome.Wrong at p) → ⊥
  not_wrong bytes at p x t = t.2 (lives-from_viable (take (at + 1) bytes) (drop (at + 1) bytes, subst Text (sym (take-append-drop (at + 1) bytes)) x))

-- ---- names
name_end : (p : State) → of_name p ≡ true → need p ≡ 0 → p ≡ NameWord
name_end NameStart k z = absurd (omega arith)
name_end NameWord k z = refl
name_end NameUnderscore k z = absurd (omega arith)
name_end WantD k z = cc
name_end WantT k z = cc
name_end WantM k z = cc
name_end WantI k z = cc
name_end WantColon k z = cc
name_end SegmentStart k z = cc
name_end SegmentWord k z = cc
name_end SegmentUnderscore k z = cc
name_end VersionStart k z = cc
name_end (Version n) k z = cc

pub reads_names : Reads NameText NameStart 64
reads_names = record {
  text = λ bytes p e z h. record {
    segment = segment-from_run bytes (e ∙ ap (λ q. Some q) (name_end p (kind-run NameStart p bytes e) z));
    short = h;
  };
  walked = λ bytes x. (NameWord, run-name bytes x.segment, refl, x.short);
}

-- ---- DTMIs
dtmi_end : (p : State) → of_name p ≡ false → need p ≡ 0 → (v : ℕ) × (p ≡ Version v)
dtmi_end NameStart k z = cc
dtmi_end NameWord k z = cc
dtmi_end NameUnderscore k z = cc
dtmi_end WantD k z = absurd (omega arith)
dtmi_end WantT k z = absurd (omega arith)
dtmi_end WantM k z = absurd (omega arith)
dtmi_end WantI k z = absurd (omega arith)
dtmi_end WantColon k z = absurd (omega arith)
dtmi_end SegmentStart k z = absurd (omega arith)
dtmi_end SegmentWord k z = absurd (omega arith)
dtmi_end SegmentUnderscore k z = absurd (omega arith)
dtmi_end VersionStart k z = absurd (omega arith)
dtmi_end (Version n) k z = (n, refl)

form_at_end : (bytes : List ℕ) (p : State) → run WantD bytes ≡ Some p → need p ≡ 0 → (i : Identifier) × HasDtmiForm bytes i
form_at_end bytes p e z =
    let v = dtmi_end p (kind-run WantD p bytes e) z in
    let f = form-from_run v.0 bytes (e ∙ ap (λ q. Some q) v.1) in
    (f.0, f.1)

pub reads_dtmis : Reads IsDtmi WantD 2048
reads_dtmis = record {
  text = λ bytes p e z h. let f = form_at_end bytes p e z in (f.0, record { form = f.1; short = h });
  walked = λ bytes x. (Version x.0.version, run-form bytes x.0 x.1.form, refl, x.1.short);
}

-- texts of the form, within any bound
abbrev pub IsFormWithin : ℕ → List ℕ → Type 0
IsFormWithin bound bytes = (i : Identifier) × HasDtmiForm bytes i × (length bytes ≤ bound)

pub reads_forms : (bound : ℕ) → Reads (IsFormWithin bound) WantD bound
reads_forms bound = record {
  text = λ bytes p e z h. let f = form_at_end bytes p e z in (f.0, f.1, h);
  walked = λ bytes x. (Version x.0.version, run-form bytes x.0 x.1, refl, x.2);
}

pub no_version : (bytes : List ℕ) (p : State) → run WantD bytes ≡ Some p → version_of p ≡ None → need p ≡ 0 → ⊥
no_version bytes p e n z =
    let v = dtmi_end p (kind-run WantD p bytes e) z in
    let m : version_of p ≡ Some v.0 = ap version_of v.1 in
    cc

-- ---- the form alone
pub form_whole : (text bytes : List ℕ) (bound : ℕ) (p : State) (r : Bool) → bytes ≡ text → WalkTells WantD bound bytes (outcome.Whole p) → r ≡ ends p
    → IsTrue r ↔ ((i : Identifier) × HasDtmiForm text i)
form_whole text bytes bound p r same t e =
    let e' : run WantD text ≡ Some p = ap (run WantD) (sym same) ∙ t.0 in (
      λ h. form_at_end text p e' (eqb-true (need p) 0 (sym e ∙ h)),
      λ f.
          let q : Version f.0.version ≡ p = let w = run-form text f.0 f.1 in cc in
          e ∙ eq-eqb (need p) 0 (ap need (sym q)),
    )

pub form_wrong : (text bytes : List ℕ) (bound at : ℕ) (p : State) → bytes ≡ text → WalkTells WantD bound bytes (outcome.Wrong at p) → length bytes ≤ bound
    → IsTrue false ↔ ((i : Identifier) × HasDtmiForm text i)
form_wrong text bytes bound at p same t h = (
  λ e. absurd (false≢true e),
  λ f. absurd (not_wrong (IsFormWithin bound) WantD bound (reads_forms bound) bytes at p (f.0, subst (λ (b : List ℕ). HasDtmiForm b f.0) (sym same) f.1, h) t),
)
