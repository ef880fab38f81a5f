-- What the walk of a router finds in rows that branch by words, and in rows behind a part.
use Rattle.std.proofs.Common.{◌≡◌, ◌≢◌, ℕ, suc, ◌+◌, ◌-◌, ◌<◌, List, [], ◌∷◌, ◌++◌, length, drop, Option, Some, None, Bool, true, false, cond, refl, sym, ap, subst, ◌∙◌, length-append, arith, nat_eq, ◌==◌, ltb, ◌&&◌, append-nil, ◌⊎◌, inl, inr, lit<}
use Rattle.std.proofs.lemmas.Bool.Decides.{nat_tests}
use Rattle.std.proofs.lemmas.List.Prefix.{end_rest, front_rest}
use Rattle.std.specs.List.{AllByRecursion, starts_with}
use Rattle.std.specs.Cmp.Lexicographic.{pointwise}
use Rattle.matchit.specs.Rows.{Rows, Seen, prepend, ends, rows_of, param_token, catch_all_token}
use Rattle.matchit.specs.Seek.{step, or_else, seek, first, after_param, param_step, has_slash, segment, slash, cuts, better, longest_suffix}
use Rattle.matchit.specs.Level.{IsText, AreSuffixes, AllSegment}
use Rattle.matchit.proofs.SeekLemmas.{own-append, own-prepend, step-append, step-hit, step-miss, prepend-nil, or_else-none, param_step-empty, seek-empty, first-prefix}
use Rattle.matchit.proofs.LongestLemmas.{longest-kid}
use Rattle.matchit.proofs.LevelLemmas.{length-prepend}
use Rattle.matchit.proofs.ParamLemmas.{after_param-end, after_param-stop, after_param-kid}

-- ---- words
pub literal : (rs : Rows) (b : ℕ) (p : List ℕ) → step param_token rs ≡ [] → step catch_all_token rs ≡ [] → seek 0 rs (b ∷ p) ≡ seek 0 (step b rs) p
unfolding seek
literal rs b p h k = simp (h, k, param_step-empty (b ∷ p), seek-empty ((param_step {K = ℕ} [] (b ∷ p)).0 - 1) p, or_else-none)

-- rows of which no byte goes on in both parts
pub apart : (A B : Rows) → ((b : ℕ) → (step b A ≡ []) ⊎ (step b B ≡ [])) → step param_token A ≡ [] → step catch_all_token A ≡ [] → step param_token B ≡ [] → step catch_all_token B ≡ []
    → (path : List ℕ) → first (A ++ B) path ≡ or_else (first A path) (first B path)
unfolding seek
apart A B h a1 a2 b1 b2 [] = own-append A B
apart A B h a1 a2 b1 b2 (b ∷ p) =
    let e1 : step param_token (A ++ B) ≡ [] = step-append param_token A B ∙ rw (a1, b1) refl in
    let e2 : step catch_all_token (A ++ B) ≡ [] = step-append catch_all_token A B ∙ rw (a2, b2) refl in
    literal (A ++ B) b p e1 e2 ∙ ap (λ r. seek 0 r p) (step-append b A B) ∙ by (h b)
    ∙ ap (λ x. or_else x (seek 0 (step b B) p)) (sym (literal A b p a1 a2)) ∙ ap (or_else (first A (b ∷ p))) (sym (literal B b p b1 b2))
  where
    by : (step b A ≡ []) ⊎ (step b B ≡ []) → seek 0 (step b A ++ step b B) p ≡ or_else (seek 0 (step b A) p) (seek 0 (step b B) p)
    by (inl e) = rw (e, seek-empty 0 p) refl
    by (inr e) = rw (e, append-nil (step b A), seek-empty 0 p, or_else-none (seek 0 (step b A) p)) refl

-- rows that begin with a word, and others of which none begins with its first byte
pub branch : (x : ℕ) (w : List ℕ) (C B : Rows) (path : List ℕ) → IsText (x ∷ w) → step x B ≡ [] → step param_token B ≡ [] → step catch_all_token B ≡ []
    → first (prepend (x ∷ w) C ++ B) path ≡ or_else (cond (starts_with nat_eq path (x ∷ w)) (first C (drop (length (x ∷ w)) path)) None) (first B path)
branch x w C B path t bx b1 b2 =
    let lt : x < 256 = t.0 in
    let n1 : x ≢ param_token = λ e. omega arith in
    let n2 : x ≢ catch_all_token = λ e. omega arith in
    apart (prepend (x ∷ w) C) B (λ b. by b (x == b) refl) (step-miss param_token x w C n1) (step-miss catch_all_token x w C n2) b1 b2 path
    ∙ ap (λ v. or_else v (first B path)) (first-prefix (x ∷ w) C path t)
  where
    by : (b : ℕ) (v : Bool) → (x == b) ≡ v → (step b (prepend (x ∷ w) C) ≡ []) ⊎ (step b B ≡ [])
    by b true e = let xb : x ≡ b = grind (arith, nat_tests) in inr (subst (λ (n : ℕ). step n B ≡ []) xb bx)
    by b false e = let n : x ≢ b = λ q. grind (arith, nat_tests) in inl (step-miss b x w C n)

-- a path that begins with a word
pub begins : (w p : List ℕ) → starts_with nat_eq p w ≡ true → p ≡ w ++ drop (length w) p
begins [] p e = refl
begins (x ∷ w) [] e = cc
begins (x ∷ w) (y ∷ p) e = by (x == y) refl e (begins w p)
  where
    by : (v : Bool) → (x == y) ≡ v → (v && starts_with nat_eq p w) ≡ true → (starts_with nat_eq p w ≡ true → p ≡ w ++ drop (length w) p) → y ∷ p ≡ x ∷ (w ++ drop (length w) p)
    by true q h more = let xy : x ≡ y = grind (arith, nat_tests) in rw (← xy) (ap (λ r. x ∷ r) (more h))
    by false q h more = cc

pub either : (a b : Option ℕ) (k : ℕ) → or_else a b ≡ Some k → (a ≡ Some k) ⊎ (b ≡ Some k)
either None b k e = inr e
either (Some j) b k e = inl e

pub word_found : (w p : List ℕ) (found : Option ℕ) (k : ℕ) → cond (starts_with nat_eq p w) found None ≡ Some k → (p ≡ w ++ drop (length w) p) × (found ≡ Some k)
word_found w p found k = by (starts_with nat_eq p w) refl
  where
    by : (v : Bool) → starts_with nat_eq p w ≡ v → cond v found None ≡ Some k → (p ≡ w ++ drop (length w) p) × (found ≡ Some k)
    by true q e = (begins w p q, e)
    by false q e = cc

pub end_found : (key : ℕ) (p : List ℕ) (k : ℕ) → first (([], key) ∷ []) p ≡ Some k → (p ≡ []) × (key ≡ k)
unfolding seek
end_found key [] k e = (refl, cc)
end_found key (b ∷ p) k e =
    let none : seek 0 (([], key) ∷ []) (b ∷ p) ≡ None = literal (([], key) ∷ []) b p refl refl ∙ seek-empty 0 p in
    cc

-- ---- parts
abbrev pub NoSlash : List ℕ → Type 0
NoSlash t = AllByRecursion (λ b. b ≢ slash) t

pub uncut : (t : List ℕ) → NoSlash t → (segment t ≡ t) × (has_slash t ≡ false)
uncut [] h = (refl, refl)
uncut (b ∷ t) h =
    let n : b ≢ slash = h.0 in
    let e : (b == slash) ≡ false = grind (arith, nat_tests) in
    let r = uncut t h.1 in
    rw e (ap (λ z. b ∷ z) r.0, r.1)

pub cut : (t rest : List ℕ) → NoSlash t → (segment (t ++ slash ∷ rest) ≡ t ++ slash ∷ []) × (has_slash (t ++ slash ∷ rest) ≡ true)
cut [] rest h = (refl, refl)
cut (b ∷ t) rest h =
    let n : b ≢ slash = h.0 in
    let e : (b == slash) ≡ false = grind (arith, nat_tests) in
    let r = cut t rest h.1 in
    rw e (ap (λ z. b ∷ z) r.0, r.1)

-- where a path is cut
pub parted : (p : List ℕ) → NoSlash p ⊎ ((t : List ℕ) × (rest : List ℕ) × NoSlash t × (p ≡ t ++ slash ∷ rest))
parted [] = inl tt
parted (b ∷ p) = by (b == slash) refl (parted p)
  where
    by : (v : Bool) → (b == slash) ≡ v → NoSlash p ⊎ ((t : List ℕ) × (rest : List ℕ) × NoSlash t × (p ≡ t ++ slash ∷ rest))
        → NoSlash (b ∷ p) ⊎ ((t : List ℕ) × (rest : List ℕ) × NoSlash t × (b ∷ p ≡ t ++ slash ∷ rest))
    by true e r = let is : b ≡ slash = grind (arith, nat_tests) in inr ([], p, tt, ap (λ z. z ∷ p) is)
    by false e (inl none) = let n : b ≢ slash = λ q. grind (arith, nat_tests) in inl (n, none)
    by false e (inr (t, rest, none, is)) = let n : b ≢ slash = λ q. grind (arith, nat_tests) in inr (b ∷ t, rest, (n, none), ap (λ z. b ∷ z) is)

last_plain : (t : List ℕ) (b : ℕ) → NoSlash (b ∷ t) → pointwise nat_eq (slash ∷ []) (drop (length t) (b ∷ t)) ≡ false
last_plain [] b h = let n : b ≢ slash = h.0 in let e : (slash == b) ≡ false = grind (arith, nat_tests) in rw e refl
last_plain (c ∷ t) b h = last_plain t c h.1

pub no_cut : (b : ℕ) (t : List ℕ) → NoSlash (b ∷ t) → cuts (b ∷ t) (slash ∷ []) ≡ false
no_cut b t h =
    let one : length (b ∷ t) - 1 ≡ length t = omega arith in
    let last = last_plain t b h in
    rw (one, last) (by (ltb 1 (length (b ∷ t))))
  where
    by : (v : Bool) → (v && false) ≡ false
    by true = refl
    by false = refl

pub cut_off : (b : ℕ) (t : List ℕ) → cuts ((b ∷ t) ++ slash ∷ []) (slash ∷ []) ≡ true
cut_off b t =
    let n : length ((b ∷ t) ++ slash ∷ []) ≡ suc (length t + 1) = simp (length-append) (omega arith) in
    let e = end_rest ((b ∷ t) ++ slash ∷ []) (slash ∷ []) (b ∷ t) refl in
    let more : ltb 1 (length ((b ∷ t) ++ slash ∷ [])) ≡ true = rw n (grind (arith, nat_tests)) in
    rw (more, e) refl

-- the rows behind a slash, as the nodes of a router
abbrev pub behind : Rows → Seen
behind F = record { prefix = slash ∷ []; tails = F; height = 0 }

all_slash : (F : Rows) → AllSegment (slash ∷ []) (prepend (slash ∷ []) F)
all_slash [] = tt
all_slash ((t, k) ∷ F) = (refl, all_slash F)

pub suffixes : (F : Rows) → 0 < length F → AreSuffixes (behind F ∷ [])
suffixes F h = (
  record {
    some_prefix = lit< tt;
    some_rows = rw (length-prepend (slash ∷ []) F) h;
    all_segment = all_slash F;
  },
  tt,
  tt,
)

longest_behind : (seg : List ℕ) (F : Rows) → 0 < length F → longest_suffix seg (rows_of (behind F ∷ [])) ≡ better seg [] (slash ∷ [])
longest_behind seg F h =
    rw (append-nil (prepend (slash ∷ []) F)) (longest-kid seg [] (slash ∷ []) (prepend (slash ∷ []) F) (all_slash F) (rw (length-prepend (slash ∷ []) F) h))

pub go_behind : (E : Rows) (b : ℕ) (p : List ℕ) → b < 256 → first (prepend (param_token ∷ []) E) (b ∷ p) ≡ after_param E (b ∷ p)
unfolding seek
go_behind E b p h =
    let n : param_token ≢ b = λ e. omega arith in
    let m : param_token ≢ catch_all_token = λ e. omega arith in
    simp (step-miss b param_token [] E n, step-hit param_token [] E, prepend-nil E, step-miss catch_all_token param_token [] E m, seek-empty 0 p, or_else-none)

-- a part up to the end of a path
pub part_ends : (F : Rows) (v : Option ℕ) (b : ℕ) (t : List ℕ) → 0 < length F → b < 256 → NoSlash (b ∷ t) → first (prepend (param_token ∷ []) (rows_of (behind F ∷ []) ++ ends v)) (b ∷ t) ≡ v
part_ends F v b t h l n =
    let u = uncut (b ∷ t) n in
    let none : longest_suffix (segment (b ∷ t)) (rows_of (behind F ∷ [])) ≡ [] = longest_behind (segment (b ∷ t)) F h ∙ rw (u.0, no_cut b t n) refl in
    go_behind (rows_of (behind F ∷ []) ++ ends v) b t l ∙ after_param-end (behind F ∷ []) v b t (suffixes F h) none u.1

-- a part up to a slash
pub part_goes_on : (F : Rows) (v : Option ℕ) (b : ℕ) (t rest : List ℕ) → 0 < length F → b < 256 → NoSlash (b ∷ t)
    → first (prepend (param_token ∷ []) (rows_of (behind F ∷ []) ++ ends v)) ((b ∷ t) ++ slash ∷ rest) ≡ first (prepend (slash ∷ []) F) (slash ∷ rest)
part_goes_on F v b t rest h l n =
    let u = cut (b ∷ t) rest n in
    let seg = segment ((b ∷ t) ++ slash ∷ rest) in
    let there : slash ∷ [] ≡ longest_suffix seg (rows_of (behind F ∷ [])) = sym (longest_behind seg F h ∙ rw (u.0, cut_off b t) refl) in
    let size : length seg - 1 ≡ length (b ∷ t) = rw u.0 (simp (length-append) (omega arith)) in
    let left : drop (length seg - 1) ((b ∷ t) ++ slash ∷ rest) ≡ slash ∷ rest = rw size (front_rest ((b ∷ t) ++ slash ∷ rest) (b ∷ t) (slash ∷ rest) refl) in
    go_behind (rows_of (behind F ∷ []) ++ ends v) b (t ++ slash ∷ rest) l
    ∙ after_param-kid (behind F ∷ []) 0 (behind F) v b (t ++ slash ∷ rest) (suffixes F h) (lit< tt) there
    ∙ ap (first (prepend (slash ∷ []) F)) left

-- no part
pub part_stops : (F : Rows) (v : Option ℕ) (rest : List ℕ) → 0 < length F → first (prepend (param_token ∷ []) (rows_of (behind F ∷ []) ++ ends v)) (slash ∷ rest) ≡ None
part_stops F v rest h =
    let none : longest_suffix (slash ∷ []) (rows_of (behind F ∷ [])) ≡ [] = longest_behind (slash ∷ []) F h in
    go_behind (rows_of (behind F ∷ []) ++ ends v) slash rest (lit< tt) ∙ after_param-stop (behind F ∷ []) v slash rest none refl

pub part_missing : (E : Rows) → first (prepend (param_token ∷ []) E) [] ≡ None
unfolding seek
part_missing E = own-prepend param_token [] E

-- the same of a part with nothing behind it
pub last_part_ends : (v : Option ℕ) (b : ℕ) (t : List ℕ) → b < 256 → NoSlash (b ∷ t) → first (prepend (param_token ∷ []) (ends v)) (b ∷ t) ≡ v
last_part_ends v b t l n = go_behind (ends v) b t l ∙ after_param-end [] v b t tt refl (uncut (b ∷ t) n).1

pub last_part_stops : (v : Option ℕ) (b : ℕ) (p : List ℕ) → b < 256 → has_slash (b ∷ p) ≡ true → first (prepend (param_token ∷ []) (ends v)) (b ∷ p) ≡ None
last_part_stops v b p l s = go_behind (ends v) b p l ∙ after_param-stop [] v b p refl s
