-- Where texts are cut.
use Rattle.std.proofs.Common.{◌≡◌, ℕ, zero, suc, ◌+◌, ◌<◌, ◌≤◌, List, [], ◌∷◌, ◌++◌, length, take, drop, get_or, Bool, true, false, refl, sym, ap, subst, arith}
use Rattle.std.specs.Prelude.{IsTrue}
use Rattle.std.specs.List.{AllByRecursion}
use Rattle.std.specs.Str.{IsUtf8, IsCharBoundary}
use Rattle.std.proofs.lemmas.Str.{IsCharBoundary-start, IsCharBoundary-after_ascii}
use Rattle.std.proofs.lemmas.List.{take-append-drop}
use Rattle.std.proofs.lemmas.Bool.Decides.{nat_tests}
use Rattle.query_terms.specs.tokens.Spellings.{is_space, is_query_name_byte, SkipsSpaces}
use Rattle.query_lexer.specs.Machinery.Spans.{is_number_byte}

-- behind bytes that are all below 128
pub behind_ascii : (bs : List ℕ) (n : ℕ) → IsUtf8 bs → n ≤ length bs → ((k : ℕ) → k < n → get_or bs k 0 < 128) → IsCharBoundary bs n
behind_ascii bs zero u h low = IsCharBoundary-start bs u
behind_ascii bs (suc n) u h low =
    let e : n + 1 ≡ suc n = omega arith in
    subst (λ (i : ℕ). IsCharBoundary bs i) e (IsCharBoundary-after_ascii bs n u (omega arith) (low n (omega arith)))

pub space_low : (b : ℕ) → is_space b ≡ true → b < 128
space_low b h = grind (arith, nat_tests)

pub name_low : (b : ℕ) → is_query_name_byte b ≡ true → b < 128
name_low b h = grind (arith, nat_tests)

pub number_low : (b : ℕ) → is_number_byte b ≡ true → b < 128
number_low b h = grind (arith, nat_tests)

-- a fact of each of the first bytes
pub all_front : (P : ℕ → Type 0) (xs : List ℕ) (n : ℕ) → n ≤ length xs → ((k : ℕ) → k < n → P (get_or xs k 0)) → AllByRecursion P (take n xs)
all_front P xs zero h f = tt
all_front P [] (suc n) h f = absurd (omega (arith, h))
all_front P (x ∷ xs) (suc n) h f = (f 0 (omega arith), all_front P xs n (omega (arith, h)) (λ k lt. f (suc k) (omega (arith, lt))))

pub all_at : (P : ℕ → Type 0) (xs : List ℕ) (k : ℕ) → k < length xs → AllByRecursion P xs → P (get_or xs k 0)
all_at P [] k h all = absurd (omega (arith, h))
all_at P (x ∷ xs) zero h all = all.0
all_at P (x ∷ xs) (suc k) h all = all_at P xs k (omega (arith, h)) all.1

pub all_append : (P : ℕ → Type 0) (xs ys : List ℕ) → AllByRecursion P xs → AllByRecursion P ys → AllByRecursion P (xs ++ ys)
all_append P [] ys p q = q
all_append P (x ∷ xs) ys p q = (p.0, all_append P xs ys p.1 q)

-- the first byte behind the first bytes
pub first_behind : (xs : List ℕ) (n : ℕ) → get_or (drop n xs) 0 0 ≡ get_or xs n 0
first_behind xs zero = refl
first_behind [] (suc n) = refl
first_behind (x ∷ xs) (suc n) = first_behind xs n

pub spaces_in_front : (text : List ℕ) (n : ℕ) → n ≤ length text → ((k : ℕ) → k < n → is_space (get_or text k 0) ≡ true) → SkipsSpaces text (drop n text)
spaces_in_front text n h all = (take n text, all_front (λ (b : ℕ). IsTrue (is_space b)) text n h all, sym (take-append-drop n text))

-- no more bytes that pass a test stand in front than up to the first that does not
pub run_longest : (p : ℕ → Bool) (bytes more to rest : List ℕ) → AllByRecursion (λ b. IsTrue (p b)) more → bytes ++ to ≡ more ++ rest
    → p (get_or to 0 0) ≡ false → length more ≤ length bytes
run_longest p bytes [] to rest all e stops = omega arith
run_longest p [] (m ∷ more) to rest all e stops =
    let first : get_or to 0 0 ≡ m = ap (λ (l : List ℕ). get_or l 0 0) e in
    let test : p m ≡ true = all.0 in
    let other : p m ≡ false = subst (λ (x : ℕ). p x ≡ false) first stops in
    absurd cc
run_longest p (b ∷ bytes) (m ∷ more) to rest all e stops =
    let others : bytes ++ to ≡ more ++ rest = cc in
    let h = run_longest p bytes more to rest all.1 others stops in
    omega (arith, h)

-- where a byte of a name stands, the bytes have not ended
pub name_within : (bs : List ℕ) (k : ℕ) → is_query_name_byte (get_or bs k 0) ≡ true → k < length bs
name_within [] zero e = absurd cc
name_within [] (suc k) e = absurd cc
name_within (x ∷ xs) zero e = omega arith
name_within (x ∷ xs) (suc k) e = let h = name_within xs k e in omega (arith, h)
