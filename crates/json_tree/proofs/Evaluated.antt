-- Where pointers lead, token by token.
use Rattle.std.proofs.Common.{false, ◌≡◌, ◌≢◌, ℕ, zero, suc, ◌<◌, ◌≤◌, ◌⊎◌, inl, inr, List, [], ◌∷◌, ◌++◌, length, drop, get_or, nat_eq, refl, sym, ap, ◌∙◌, subst, arith}
use Rattle.std.specs.List.{slice_range, AllByRecursion}
use Rattle.json_tree.specs.Values.{Json}
use Rattle.json_tree.specs.Pointers.{token_byte, token_text, pointer_text, IsStep, PointsTo}
use Rattle.json_tree.specs.Machinery.Tokens.{IsNoSlash}
use Rattle.std.proofs.lemmas.Str.{IsCharBoundary-after_ascii}
use Rattle.std.specs.Str.{IsCharBoundary, IsUtf8}
use Rattle.std.proofs.lemmas.List.Folds.{drop_split}
use Rattle.json_tree.proofs.Stepped.{same_key}
use Rattle.json_tree.proofs.Choices.{choose, is_byte, is_byte-in, no_byte}
use Rattle.std.specs.Prelude.{IsTrue, ◌↔◌}

all_append : (xs ys : List ℕ) → AllByRecursion IsNoSlash xs → AllByRecursion IsNoSlash ys → AllByRecursion IsNoSlash (xs ++ ys)
all_append [] ys h k = k
all_append (x ∷ xs) ys h k = (h.0, all_append xs ys h.1 k)

byte_no_slash : (b : ℕ) → AllByRecursion IsNoSlash (token_byte b)
byte_no_slash b = choose (AllByRecursion IsNoSlash) (nat_eq b 126) _ _
    (λ _. ((λ e. absurd (omega (arith, e))), ((λ e. absurd (omega (arith, e))), tt)))
    (λ _. choose (AllByRecursion IsNoSlash) (nat_eq b 47) _ _
    (λ _. ((λ e. absurd (omega (arith, e))), ((λ e. absurd (omega (arith, e))), tt)))
    (λ e. (no_byte b 47 e, tt)))

pub token_no_slash : (key : List ℕ) → AllByRecursion IsNoSlash (token_text key)
token_no_slash [] = tt
token_no_slash (b ∷ key) = all_append (token_byte b) (token_text key) (byte_no_slash b) (token_no_slash key)

-- nothing, or a slash and more
abbrev pub Starts : List ℕ → Type 0
Starts rest = (rest ≡ []) ⊎ ((more : List ℕ) × (rest ≡ 47 ∷ more))

pub pointer_starts : (tokens : List (List ℕ)) → Starts (pointer_text tokens)
pointer_starts [] = inl refl
pointer_starts (token ∷ tokens) = inr (token_text token ++ pointer_text tokens, refl)

no_start : (y : ℕ) (ys rest : List ℕ) → y ≢ 47 → Starts rest → rest ≡ y ∷ ys → ⊥
no_start y ys rest h (inl e) is = absurd cc
no_start y ys rest h (inr e) is = let same : 47 ∷ e.0 ≡ y ∷ ys = sym e.1 ∙ is in h cc

-- a text splits in one way into what has no slash and what starts with one
pub same_split : (a b c d : List ℕ) → AllByRecursion IsNoSlash a → AllByRecursion IsNoSlash b → Starts c → Starts d → a ++ c ≡ b ++ d → (a ≡ b) × (c ≡ d)
same_split [] [] c d p q s t e = (refl, e)
same_split [] (y ∷ b) c d p q s t e = absurd (no_start y (b ++ d) c q.0 s e)
same_split (x ∷ a) [] c d p q s t e = absurd (no_start x (a ++ c) d p.0 t (sym e))
same_split (x ∷ a) (y ∷ b) c d p q s t e =
    let head : x ≡ y = cc in let rest : a ++ c ≡ b ++ d = cc in
    let r = same_split a b c d p.1 q.1 s t rest in (cc, r.1)

-- the pointer goes on with its first token
pub goes_on : (v part w : Json) (bytes token rest key : List ℕ) → bytes ≡ 47 ∷ (token ++ rest) → token ≡ token_text key → IsStep v key part
    → PointsTo part rest w → PointsTo v bytes w
goes_on v part w bytes token rest key is spelled step h =
    (key ∷ h.0, is ∙ ap (λ t. 47 ∷ (t ++ rest)) spelled ∙ ap (λ r. 47 ∷ (token_text key ++ r)) h.1, (part, step, h.2))

-- and leads nowhere else
pub went_on : (v w : Json) (bytes token rest : List ℕ) → bytes ≡ 47 ∷ (token ++ rest) → AllByRecursion IsNoSlash token → Starts rest → PointsTo v bytes w
    → (key : List ℕ) × (part : Json) × (token ≡ token_text key) × IsStep v key part × PointsTo part rest w
went_on v w bytes token rest is plain starts ([], p, q) = let e : 47 ∷ (token ++ rest) ≡ [] = sym is ∙ p in absurd cc
went_on v w bytes token rest is plain starts (key ∷ tokens, p, q) =
    let e : 47 ∷ (token ++ rest) ≡ 47 ∷ (token_text key ++ pointer_text tokens) = sym is ∙ p in
    let f : token ++ rest ≡ token_text key ++ pointer_text tokens = cc in
    let s = same_split token (token_text key) rest (pointer_text tokens) plain (token_no_slash key) starts (pointer_starts tokens) f in
    (key, q.0, s.0, q.1, (tokens, s.1, q.2))

-- only the empty text leads to the value itself, and every other begins with a slash
pub empty_leads : (v w : Json) (bytes : List ℕ) → bytes ≡ [] → v ≡ w → PointsTo v bytes w
empty_leads v w bytes e is = ([], e, is)

pub slash_first : (v w : Json) (bytes : List ℕ) → 0 < length bytes → (get_or bytes 0 0 ≡ 47 → ⊥) → PointsTo v bytes w → ⊥
slash_first v w bytes some first ([], p, q) = let e : bytes ≡ [] = p in let n : length bytes ≡ 0 = ap length e in omega (arith, some, n)
slash_first v w bytes some first (key ∷ tokens, p, q) = first (ap (λ (bs : List ℕ). get_or bs 0 0) p)

drop_all : (xs : List ℕ) (i : ℕ) → length xs ≤ i → drop i xs ≡ []
drop_all [] zero h = refl
drop_all [] (suc i) h = refl
drop_all (x ∷ xs) zero h = absurd (omega (arith, h))
drop_all (x ∷ xs) (suc i) h = drop_all xs i (omega (arith, h))

drop_none : (xs : List ℕ) (i : ℕ) → i ≤ length xs → drop i xs ≡ [] → i ≡ length xs
drop_none [] zero h e = refl
drop_none [] (suc i) h e = absurd (omega (arith, h))
drop_none (x ∷ xs) zero h e = absurd cc
drop_none (x ∷ xs) (suc i) h e = let r = drop_none xs i (omega (arith, h)) e in omega (arith, r)

-- the whole token was compared
pub compared : (token key : List ℕ) (at i : ℕ) → at ≤ length token → length key ≤ i
    → ((drop at token ≡ token_text (drop i key)) ↔ (token ≡ token_text key)) → IsTrue (nat_eq at (length token)) ↔ (token ≡ token_text key)
compared token key at i within done same =
    let rest : token_text (drop i key) ≡ [] = ap token_text (drop_all key i done) in (
      λ t. same.0 (drop_all token at (let e = is_byte at (length token) t in omega (arith, e)) ∙ sym rest),
      λ t. is_byte-in at (length token) (drop_none token at within (same.1 t ∙ rest)),
    )

some_bytes : (n : ℕ) → false ≡ nat_eq n 0 → 0 < n
some_bytes zero e = absurd cc
some_bytes (suc n) e = omega arith

-- behind the first slash a character begins
pub first_boundary : (pointer bytes : List ℕ) → bytes ≡ pointer → IsUtf8 bytes → false ≡ nat_eq (length bytes) 0 → get_or bytes 0 0 ≡ 47 → IsCharBoundary pointer 1
first_boundary pointer bytes same utf8 some first =
    subst (λ bs. IsCharBoundary bs 1) same (IsCharBoundary-after_ascii bytes 0 utf8 (some_bytes (length bytes) some) (omega (arith, first)))

pub bad_start : (v : Json) (pointer bytes : List ℕ) → bytes ≡ pointer → false ≡ nat_eq (length bytes) 0 → (get_or bytes 0 0 ≡ 47 → ⊥)
    → (w : Json) → PointsTo v pointer w → ⊥
bad_start v pointer bytes same some first w h =
    slash_first v w bytes (some_bytes (length bytes) some) first (subst (λ bs. PointsTo v bs w) (sym same) h)

pub rest_starts : (xs : List ℕ) (end : ℕ) → (end < length xs → get_or xs end 0 ≡ 47) → Starts (drop end xs)
rest_starts [] zero h = inl refl
rest_starts [] (suc end) h = inl refl
rest_starts (x ∷ xs) zero h = inr (xs, ap (λ (b : ℕ). b ∷ xs) (h (omega arith)))
rest_starts (x ∷ xs) (suc end) h = rest_starts xs end (λ lt. h (omega (arith, lt)))

pub first_split : (xs : List ℕ) (end : ℕ) → 0 < length xs → get_or xs 0 0 ≡ 47 → 1 ≤ end → xs ≡ 47 ∷ (slice_range xs 1 end ++ drop end xs)
first_split [] end some first low = absurd (omega (arith, some))
first_split (x ∷ xs) end some first low = ap (λ (b : ℕ). b ∷ xs) first ∙ ap (λ (l : List ℕ). 47 ∷ l) (drop_split (x ∷ xs) 1 end low)

-- the first token ends here
abbrev pub HasFront : List ℕ → ℕ → Type 0
HasFront bytes end = (bytes ≡ 47 ∷ (slice_range bytes 1 end ++ drop end bytes)) × (AllByRecursion IsNoSlash (slice_range bytes 1 end) × Starts (drop end bytes))

pub has_front : (pointer bytes : List ℕ) (end : ℕ) → bytes ≡ pointer → false ≡ nat_eq (length bytes) 0 → get_or bytes 0 0 ≡ 47 → 1 ≤ end
    → AllByRecursion IsNoSlash (slice_range bytes 1 end) → (end < length bytes → get_or bytes end 0 ≡ 47) → HasFront pointer end
has_front pointer bytes end same some first low plain next =
    subst (λ bs. HasFront bs end) same (first_split bytes end (some_bytes (length bytes) some) first low, (plain, rest_starts bytes end next))

-- where the first token leads nowhere, the pointer leads nowhere
pub blocked : (v : Json) (pointer token : List ℕ) (end : ℕ) → HasFront pointer end → token ≡ slice_range pointer 1 end
    → ((key : List ℕ) (part : Json) → token ≡ token_text key → IsStep v key part → ⊥) → (w : Json) → PointsTo v pointer w → ⊥
blocked v pointer token end front is none w h =
    let g = went_on v w pointer (slice_range pointer 1 end) (drop end pointer) front.0 front.1.0 front.1.1 h in
    none g.0 g.1 (is ∙ g.2) g.3

-- where it leads to a part, the pointer leads where the rest leads from there
pub leads_on : (v part : Json) (pointer token rest : List ℕ) (end : ℕ) → HasFront pointer end → token ≡ slice_range pointer 1 end → rest ≡ drop end pointer
    → ((key : List ℕ) × (token ≡ token_text key) × IsStep v key part) → (w : Json) → PointsTo part rest w → PointsTo v pointer w
leads_on v part pointer token rest end front is below step w h =
    goes_on v part w pointer (slice_range pointer 1 end) (drop end pointer) step.0 front.0 (sym is ∙ step.1) step.2 (subst (λ r. PointsTo part r w) below h)

pub leads_nowhere : (v part : Json) (pointer token rest : List ℕ) (end : ℕ) → HasFront pointer end → token ≡ slice_range pointer 1 end → rest ≡ drop end pointer
    → ((key : List ℕ) (one other : Json) → IsStep v key one → IsStep v key other → one ≡ other)
    → ((key : List ℕ) × (token ≡ token_text key) × IsStep v key part) → ((w : Json) → PointsTo part rest w → ⊥) → (w : Json) → PointsTo v pointer w → ⊥
leads_nowhere v part pointer token rest end front is below only step none w h =
    let g = went_on v w pointer (slice_range pointer 1 end) (drop end pointer) front.0 front.1.0 front.1.1 h in
    let key : g.0 ≡ step.0 = same_key g.0 step.0 (sym g.2 ∙ sym is ∙ step.1) in
    let one : g.1 ≡ part = only step.0 g.1 part (subst (λ k. IsStep v k g.1) key g.3) step.2 in
    let more : PointsTo g.1 (drop end pointer) w = g.4 in
    none w (subst (λ (r : List ℕ). PointsTo part r w) (sym below) (subst (λ (p : Json). PointsTo p (drop end pointer) w) one more))
