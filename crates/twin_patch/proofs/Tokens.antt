-- Tokens and pointers, read from the front.
use Rattle.std.proofs.Common.{◌≡◌, ◌≢◌, ℕ, zero, suc, ◌+◌, ◌-◌, ◌<◌, ◌≤◌, ◌⊎◌, inl, inr, List, [], ◌∷◌, ◌++◌, length, take, drop, get_or, add-one, refl, sym, ap, ◌∙◌, subst, arith, append_assoc, drop-cons}
use Rattle.std.specs.List.{slice_range, AllByRecursion}
use Rattle.std.proofs.lemmas.List.{append-nil}
use Rattle.std.proofs.lemmas.List.Folds.{drop_split}
use Rattle.json_tree.specs.Pointers.{token_byte, token_text, pointer_text}
use Rattle.json_tree.specs.Machinery.Tokens.{IsBare, IsNoSlash}
use Rattle.json_tree.proofs.Choices.{no_byte-in}
use Rattle.json_tree.proofs.FirstKeys.{token_append, token_bare}
use Rattle.json_tree.proofs.Stepped.{Shape, shape, byte_split}
use Rattle.json_tree.proofs.Evaluated.{token_no_slash, Starts, same_split, pointer_starts, rest_starts}

bare : (b : ℕ) → (b ≡ 126 → ⊥) → b ≢ 47 → IsBare b
bare b h k = rw (no_byte-in b 126 h, no_byte-in b 47 k) refl

all_bare : (xs : List ℕ) → AllByRecursion (λ b. b ≡ 126 → ⊥) xs → AllByRecursion IsNoSlash xs → AllByRecursion IsBare xs
all_bare [] h k = tt
all_bare (x ∷ xs) h k = (bare x h.0 k.0, all_bare xs h.1 k.1)

all_taken : (xs : List ℕ) (n : ℕ) → AllByRecursion IsNoSlash xs → AllByRecursion IsNoSlash (take n xs)
all_taken [] zero h = tt
all_taken [] (suc n) h = tt
all_taken (x ∷ xs) zero h = tt
all_taken (x ∷ xs) (suc n) h = (h.0, all_taken xs n h.1)

all_dropped : (xs : List ℕ) (n : ℕ) → AllByRecursion IsNoSlash xs → AllByRecursion IsNoSlash (drop n xs)
all_dropped [] zero h = tt
all_dropped [] (suc n) h = tt
all_dropped (x ∷ xs) zero h = h
all_dropped (x ∷ xs) (suc n) h = all_dropped xs n h.1

-- a run of a token without slash and tilde stands for itself
pub run_bare : (xs : List ℕ) (i j : ℕ) → AllByRecursion IsNoSlash xs → AllByRecursion (λ b. b ≡ 126 → ⊥) (slice_range xs i j) → AllByRecursion IsBare (slice_range xs i j)
run_bare xs i j plain run = all_bare (slice_range xs i j) run (all_taken (drop i xs) (j - i) (all_dropped xs i plain))

-- what was read of a token, and what is left
abbrev pub Forward : List ℕ → List ℕ → ℕ → Type 0
Forward bytes key at = (more : List ℕ) → drop at bytes ≡ token_text more → bytes ≡ token_text (key ++ more)

abbrev pub Back : List ℕ → ℕ → Type 0
Back bytes at = (whole : List ℕ) → bytes ≡ token_text whole → (more : List ℕ) × (drop at bytes ≡ token_text more)

pub run_forward : (bytes key : List ℕ) (at end : ℕ) → at ≤ end → AllByRecursion IsBare (slice_range bytes at end) → Forward bytes key at → Forward bytes (key ++ slice_range bytes at end) end
run_forward bytes key at end low plain h more e =
    let run = slice_range bytes at end in
    let whole : drop at bytes ≡ token_text (run ++ more) =
    drop_split bytes at end low ∙ ap (λ r. run ++ r) e ∙ ap (λ r. r ++ token_text more) (sym (token_bare run plain)) ∙ sym (token_append run more) in
    h (run ++ more) whole ∙ ap token_text (sym (append_assoc key run more))

run_behind : (xs rest more : List ℕ) → AllByRecursion IsBare xs → xs ++ rest ≡ token_text more → (left : List ℕ) × (rest ≡ token_text left)
run_behind [] rest more h e = (more, e)
run_behind (x ∷ xs) rest [] h e = absurd (let f : x ∷ (xs ++ rest) ≡ [] = e in cc)
run_behind (x ∷ xs) rest (b ∷ bs) h e =
    let split = byte_split x b (x ∷ []) (token_byte b) (xs ++ rest) (token_text bs) (subst (Shape x) h.0 (shape x)) (shape b) e in
    run_behind xs rest bs h.1 split.1

pub run_back : (bytes : List ℕ) (at end : ℕ) → at ≤ end → AllByRecursion IsBare (slice_range bytes at end) → Back bytes at → Back bytes end
run_back bytes at end low plain h whole e =
    let left = h whole e in run_behind (slice_range bytes at end) (drop end bytes) left.0 plain (sym (drop_split bytes at end low) ∙ left.1)

-- a tilde and what stands behind it
pub tilde_split : (bytes : List ℕ) (at : ℕ) → at + 1 < length bytes → get_or bytes at 0 ≡ 126 → drop at bytes ≡ 126 ∷ get_or bytes (at + 1) 0 ∷ drop (at + 2) bytes
tilde_split [] at lt is = absurd (omega (arith, lt))
tilde_split (x ∷ []) at lt is = absurd (omega (arith, lt))
tilde_split (x ∷ y ∷ ys) zero lt is = ap (λ b. b ∷ y ∷ ys) is
tilde_split (x ∷ y ∷ ys) (suc at) lt is =
    let one : suc at + 1 ≡ suc (at + 1) = omega arith in let two : suc at + 2 ≡ suc (at + 2) = omega arith in
    rw (one, two) (tilde_split (y ∷ ys) at (omega (arith, lt)) is)

pub tilde_last : (bytes : List ℕ) (at : ℕ) → at + 1 ≡ length bytes → get_or bytes at 0 ≡ 126 → drop at bytes ≡ 126 ∷ []
tilde_last [] at lt is = absurd (omega (arith, lt))
tilde_last (x ∷ []) zero lt is = ap (λ b. b ∷ []) is
tilde_last (x ∷ []) (suc at) lt is = absurd (omega (arith, lt))
tilde_last (x ∷ y ∷ ys) zero lt is = absurd (omega (arith, lt))
tilde_last (x ∷ y ∷ ys) (suc at) lt is = tilde_last (y ∷ ys) at (omega (arith, lt)) is

pub escape_forward : (bytes key : List ℕ) (at b c : ℕ) → drop at bytes ≡ 126 ∷ c ∷ drop (at + 2) bytes → token_byte b ≡ 126 ∷ c ∷ [] → Forward bytes key at → Forward bytes (key ++ b ∷ []) (at + 2)
escape_forward bytes key at b c split spelled h more e =
    h (b ∷ more) (split ∙ ap (λ r. 126 ∷ c ∷ r) e ∙ ap (λ s. s ++ token_text more) (sym spelled)) ∙ ap token_text (sym (append_assoc key (b ∷ []) more))

-- what begins with a tilde is the token of one of the two bytes that are escaped
by_shape : (c : ℕ) (rest : List ℕ) (b : ℕ) (bs spelled : List ℕ) → token_byte b ≡ spelled → Shape b spelled → 126 ∷ c ∷ rest ≡ spelled ++ token_text bs
    → (x : ℕ) × ((x ≡ 126) ⊎ (x ≡ 47)) × (token_byte x ≡ 126 ∷ c ∷ []) × (left : List ℕ) × (rest ≡ token_text left)
by_shape c rest b bs spelled is (inl p) e =
    let f : 126 ∷ c ∷ rest ≡ 126 ∷ 48 ∷ token_text bs = e ∙ ap (λ s. s ++ token_text bs) p.0 in
    let second : 48 ≡ c = cc in
    let behind : rest ≡ token_text bs = cc in
    (b, inl p.1, is ∙ p.0 ∙ ap (λ x. 126 ∷ x ∷ []) second, bs, behind)
by_shape c rest b bs spelled is (inr (inl p)) e =
    let f : 126 ∷ c ∷ rest ≡ 126 ∷ 49 ∷ token_text bs = e ∙ ap (λ s. s ++ token_text bs) p.0 in
    let second : 49 ≡ c = cc in
    let behind : rest ≡ token_text bs = cc in
    (b, inr p.1, is ∙ p.0 ∙ ap (λ x. 126 ∷ x ∷ []) second, bs, behind)
by_shape c rest b bs spelled is (inr (inr p)) e =
    let f : 126 ∷ c ∷ rest ≡ b ∷ token_text bs = e ∙ ap (λ s. s ++ token_text bs) p.0 in
    let first : b ≡ 126 = cc in absurd (p.1 first)

escape_behind : (c : ℕ) (rest more : List ℕ) → 126 ∷ c ∷ rest ≡ token_text more
    → (b : ℕ) × ((b ≡ 126) ⊎ (b ≡ 47)) × (token_byte b ≡ 126 ∷ c ∷ []) × (left : List ℕ) × (rest ≡ token_text left)
escape_behind c rest [] e = absurd (let f : 126 ∷ c ∷ rest ≡ [] = e in cc)
escape_behind c rest (b ∷ bs) e = by_shape c rest b bs (token_byte b) refl (shape b) e

pub escape_back : (bytes : List ℕ) (at c : ℕ) → drop at bytes ≡ 126 ∷ c ∷ drop (at + 2) bytes → Back bytes at → Back bytes (at + 2)
escape_back bytes at c split h whole e = let left = h whole e in let r = escape_behind c (drop (at + 2) bytes) left.0 (sym split ∙ left.1) in (r.3, r.4)

pub no_escape : (bytes : List ℕ) (at c : ℕ) → drop at bytes ≡ 126 ∷ c ∷ drop (at + 2) bytes → ((b : ℕ) → (b ≡ 126) ⊎ (b ≡ 47) → token_byte b ≡ 126 ∷ c ∷ [] → ⊥)
    → Back bytes at → (whole : List ℕ) → bytes ≡ token_text whole → ⊥
no_escape bytes at c split none h whole e = let left = h whole e in let r = escape_behind c (drop (at + 2) bytes) left.0 (sym split ∙ left.1) in none r.0 r.1 r.2

lone : (b : ℕ) (bs spelled : List ℕ) → Shape b spelled → 126 ∷ [] ≡ spelled ++ token_text bs → ⊥
lone b bs spelled (inl p) e = let f : 126 ∷ [] ≡ 126 ∷ 48 ∷ token_text bs = e ∙ ap (λ s. s ++ token_text bs) p.0 in absurd cc
lone b bs spelled (inr (inl p)) e = let f : 126 ∷ [] ≡ 126 ∷ 49 ∷ token_text bs = e ∙ ap (λ s. s ++ token_text bs) p.0 in absurd cc
lone b bs spelled (inr (inr p)) e = let f : 126 ∷ [] ≡ b ∷ token_text bs = e ∙ ap (λ s. s ++ token_text bs) p.0 in let first : b ≡ 126 = cc in p.1 first

lone_tilde : (more : List ℕ) → 126 ∷ [] ≡ token_text more → ⊥
lone_tilde [] e = absurd cc
lone_tilde (b ∷ bs) e = lone b bs (token_byte b) (shape b) e

pub no_end : (bytes : List ℕ) (at : ℕ) → drop at bytes ≡ 126 ∷ [] → Back bytes at → (whole : List ℕ) → bytes ≡ token_text whole → ⊥
no_end bytes at split h whole e = let left = h whole e in lone_tilde left.0 (sym split ∙ left.1)

drop_all : (xs : List ℕ) (i : ℕ) → length xs ≤ i → drop i xs ≡ []
drop_all [] zero h = refl
drop_all [] (suc i) h = refl
drop_all (x ∷ xs) zero h = absurd (omega (arith, h))
drop_all (x ∷ xs) (suc i) h = drop_all xs i (omega (arith, h))

-- the token was read whole
pub token_read : (bytes key : List ℕ) (at : ℕ) → length bytes ≤ at → Forward bytes key at → bytes ≡ token_text key
token_read bytes key at done h = h [] (drop_all bytes at done) ∙ ap token_text (append-nil key)

-- what was read of a pointer, and what is left
abbrev pub PathForward : List ℕ → List (List ℕ) → ℕ → Type 0
PathForward bytes path at = (more : List (List ℕ)) → drop at bytes ≡ pointer_text more → bytes ≡ pointer_text (path ++ more)

abbrev pub PathBack : List ℕ → ℕ → Type 0
PathBack bytes at = (whole : List (List ℕ)) → bytes ≡ pointer_text whole → (more : List (List ℕ)) × (drop at bytes ≡ pointer_text more)

pub slash_split : (bytes : List ℕ) (at end : ℕ) → at < length bytes → get_or bytes at 0 ≡ 47 → at + 1 ≤ end → drop at bytes ≡ 47 ∷ (slice_range bytes (at + 1) end ++ drop end bytes)
slash_split bytes at end lt is low =
    let first : drop at bytes ≡ 47 ∷ drop (at + 1) bytes = rw add-one (drop-cons bytes at 0 lt ∙ ap (λ b. b ∷ drop (suc at) bytes) is) in
    first ∙ ap (λ r. 47 ∷ r) (drop_split bytes (at + 1) end low)

pub path_forward : (bytes token key : List ℕ) (path : List (List ℕ)) (at end : ℕ) → drop at bytes ≡ 47 ∷ (token ++ drop end bytes) → token ≡ token_text key
    → PathForward bytes path at → PathForward bytes (path ++ key ∷ []) end
path_forward bytes token key path at end split spelled h more e =
    h (key ∷ more) (split ∙ ap (λ r. 47 ∷ (token ++ r)) e ∙ ap (λ t. 47 ∷ (t ++ pointer_text more)) spelled) ∙ ap pointer_text (sym (append_assoc path (key ∷ []) more))

first_token : (token rest : List ℕ) (more : List (List ℕ)) → AllByRecursion IsNoSlash token → Starts rest → 47 ∷ (token ++ rest) ≡ pointer_text more
    → (key : List ℕ) × (token ≡ token_text key) × (left : List (List ℕ)) × (rest ≡ pointer_text left)
first_token token rest [] plain starts e = absurd (let f : 47 ∷ (token ++ rest) ≡ [] = e in cc)
first_token token rest (key ∷ more) plain starts e =
    let f : 47 ∷ (token ++ rest) ≡ 47 ∷ (token_text key ++ pointer_text more) = e in
    let g : token ++ rest ≡ token_text key ++ pointer_text more = cc in
    let s = same_split token (token_text key) rest (pointer_text more) plain (token_no_slash key) starts (pointer_starts more) g in
    (key, s.0, more, s.1)

pub path_back : (bytes token : List ℕ) (at end : ℕ) → drop at bytes ≡ 47 ∷ (token ++ drop end bytes) → AllByRecursion IsNoSlash token
    → (end < length bytes → get_or bytes end 0 ≡ 47) → PathBack bytes at → PathBack bytes end
path_back bytes token at end split plain next h whole e =
    let left = h whole e in let r = first_token token (drop end bytes) left.0 plain (rest_starts bytes end next) (sym split ∙ left.1) in (r.2, r.3)

pub no_token : (bytes token : List ℕ) (at end : ℕ) → drop at bytes ≡ 47 ∷ (token ++ drop end bytes) → AllByRecursion IsNoSlash token
    → (end < length bytes → get_or bytes end 0 ≡ 47) → ((key : List ℕ) → token ≡ token_text key → ⊥) → PathBack bytes at → (whole : List (List ℕ)) → bytes ≡ pointer_text whole → ⊥
no_token bytes token at end split plain next none h whole e =
    let left = h whole e in let r = first_token token (drop end bytes) left.0 plain (rest_starts bytes end next) (sym split ∙ left.1) in none r.0 r.1

no_slash : (b : ℕ) (rest : List ℕ) (more : List (List ℕ)) → (b ≡ 47 → ⊥) → b ∷ rest ≡ pointer_text more → ⊥
no_slash b rest [] other e = absurd (let f : b ∷ rest ≡ [] = e in cc)
no_slash b rest (key ∷ more) other e = let f : b ∷ rest ≡ 47 ∷ (token_text key ++ pointer_text more) = e in let first : b ≡ 47 = cc in other first

pub no_start : (bytes : List ℕ) (at : ℕ) → at < length bytes → (get_or bytes at 0 ≡ 47 → ⊥) → PathBack bytes at → (whole : List (List ℕ)) → bytes ≡ pointer_text whole → ⊥
no_start bytes at lt other h whole e =
    let left = h whole e in no_slash (get_or bytes at 0) (drop (suc at) bytes) left.0 other (sym (drop-cons bytes at 0 lt) ∙ left.1)

pub path_read : (bytes : List ℕ) (path : List (List ℕ)) (at : ℕ) → length bytes ≤ at → PathForward bytes path at → bytes ≡ pointer_text path
path_read bytes path at done h = h [] (drop_all bytes at done) ∙ ap pointer_text (append-nil path)

pub escape_ascii : (b c : ℕ) → (b ≡ 126) ⊎ (b ≡ 47) → token_byte b ≡ 126 ∷ c ∷ [] → c < 128
escape_ascii b c (inl e) h = let f : 126 ∷ 48 ∷ [] ≡ 126 ∷ c ∷ [] = sym (ap token_byte e) ∙ h in let s : 48 ≡ c = cc in omega (arith, s)
escape_ascii b c (inr e) h = let f : 126 ∷ 49 ∷ [] ≡ 126 ∷ c ∷ [] = sym (ap token_byte e) ∙ h in let s : 49 ≡ c = cc in omega (arith, s)

pub escaped_small : (b : ℕ) → (b ≡ 126) ⊎ (b ≡ 47) → b < 128
escaped_small b (inl e) = omega (arith, e)
escaped_small b (inr e) = omega (arith, e)
