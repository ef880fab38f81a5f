-- The documents that are there end at one place.
use Rattle.std.proofs.Common.{◌≡◌, ℕ, ◌+◌, ◌<◌, ◌≤◌, List, [], ◌∷◌, ◌++◌, Option, Some, None, length, map, refl, sym, ap, ap₂, ◌∙◌, subst, arith}
use Rattle.std.proofs.lemmas.List.{append-nil}
use Rattle.std.proofs.lemmas.List.Sums.{sum_by-append}
use Rattle.std.specs.List.{sum_by}
use Rattle.dtdl_cmd.specs.Documents.{AreAllFound, IsMissing, AreTooLong, MAX_BYTES, documents_bytes}

-- what comes behind the documents that are there: nothing, none of a name, or one that passes the limit
abbrev pub Stops : ℕ → List (Option (List ℕ)) → Type 0
Stops sum [] = Unit {0}
Stops sum (None ∷ after) = Unit {0}
Stops sum (Some bytes ∷ after) = MAX_BYTES < sum + length bytes

first_of : {A : Type 0} (x y : A) (xs ys : List (Option A)) → Some x ∷ xs ≡ Some y ∷ ys → (x ≡ y) × (xs ≡ ys)
first_of x y xs ys e = (cc, cc)

pub total_front : (x : List ℕ) (xs : List (List ℕ)) → documents_bytes (x ∷ xs) ≡ length x + documents_bytes xs
total_front x xs =
    let more = sum_by-append length (x ∷ []) xs in
    let one : sum_by length (x ∷ []) ≡ length x = omega arith in
    omega (arith, more, one)

one_cut : (sum : ℕ) (xs ys : List (List ℕ)) (r s : List (Option (List ℕ))) → map Some xs ++ r ≡ map Some ys ++ s
    → Stops (sum + documents_bytes xs) r → Stops (sum + documents_bytes ys) s → sum + documents_bytes xs ≤ MAX_BYTES → sum + documents_bytes ys ≤ MAX_BYTES → (xs ≡ ys) × (r ≡ s)
one_cut sum [] [] r s e p q h g = (refl, e)
one_cut sum [] (y ∷ ys) r s e p q h g =
    let past : MAX_BYTES < sum + documents_bytes [] + length y = subst (Stops (sum + documents_bytes [])) e p in
    let front = total_front y ys in
    let none : documents_bytes [] ≡ 0 = refl in
    absurd (omega (arith, past, g, front, none))
one_cut sum (x ∷ xs) [] r s e p q h g =
    let past : MAX_BYTES < sum + documents_bytes [] + length x = subst (Stops (sum + documents_bytes [])) (sym e) q in
    let front = total_front x xs in
    let none : documents_bytes [] ≡ 0 = refl in
    absurd (omega (arith, past, h, front, none))
one_cut sum (x ∷ xs) (y ∷ ys) r s e p q h g =
    let both = first_of x y (map Some xs ++ r) (map Some ys ++ s) e in
    let front = total_front x xs in
    let ahead = total_front y ys in
    let same : length x ≡ length y = ap (λ (z : List ℕ). length z) both.0 in
    let left : sum + documents_bytes (x ∷ xs) ≡ sum + length x + documents_bytes xs = omega (arith, front) in
    let right : sum + documents_bytes (y ∷ ys) ≡ sum + length x + documents_bytes ys = omega (arith, ahead, same) in
    let rest = one_cut (sum + length x) xs ys r s both.1 (subst (λ (n : ℕ). Stops n r) left p) (subst (λ (n : ℕ). Stops n s) right q)
    (subst (λ (n : ℕ). n ≤ MAX_BYTES) left h) (subst (λ (n : ℕ). n ≤ MAX_BYTES) right g) in
    (ap₂ (λ (z : List ℕ) (zs : List (List ℕ)). z ∷ zs) both.0 rest.0, rest.1)

cut : (found : List (Option (List ℕ))) (xs ys : List (List ℕ)) (r s : List (Option (List ℕ))) → found ≡ map Some xs ++ r → found ≡ map Some ys ++ s
    → Stops (documents_bytes xs) r → Stops (documents_bytes ys) s → documents_bytes xs ≤ MAX_BYTES → documents_bytes ys ≤ MAX_BYTES → (xs ≡ ys) × (r ≡ s)
cut found xs ys r s e f p q h g =
    let zeroed : (n : ℕ) → n ≡ 0 + n = λ n. omega arith in
    let left = zeroed (documents_bytes xs) in
    let right = zeroed (documents_bytes ys) in
    one_cut 0 xs ys r s (sym e ∙ f) (subst (λ (n : ℕ). Stops n r) left p) (subst (λ (n : ℕ). Stops n s) right q)
    (subst (λ (n : ℕ). n ≤ MAX_BYTES) left h) (subst (λ (n : ℕ). n ≤ MAX_BYTES) right g)

all_of : (found : List (Option (List ℕ))) (ds : List (List ℕ)) → found ≡ map Some ds → found ≡ map Some ds ++ []
all_of found ds e = e ∙ sym (append-nil (map Some ds))

numbered : (xs ys : List (List ℕ)) (n m : ℕ) → xs ≡ ys → n ≡ length xs + 1 → m ≡ length ys + 1 → n ≡ m
numbered xs ys n m e p q = p ∙ ap (λ (zs : List (List ℕ)). length zs + 1) e ∙ sym q

pub one_missing : (found : List (Option (List ℕ))) (n m : ℕ) → IsMissing found n → IsMissing found m → n ≡ m
one_missing found n m (xs, r, e, h, p) (ys, s, f, g, q) = numbered xs ys n m (cut found xs ys (None ∷ r) (None ∷ s) e f tt tt h g).0 p q

pub one_too_long : (found : List (Option (List ℕ))) (n m : ℕ) → AreTooLong found n → AreTooLong found m → n ≡ m
one_too_long found n m (xs, b, r, e, h, past, p) (ys, c, s, f, g, over, q) =
    numbered xs ys n m (cut found xs ys (Some b ∷ r) (Some c ∷ s) e f past over h g).0 p q

pub missing_or_long : (found : List (Option (List ℕ))) (n m : ℕ) → IsMissing found n → AreTooLong found m → ⊥
missing_or_long found n m (xs, r, e, h, p) (ys, c, s, f, g, over, q) =
    let rest : None ∷ r ≡ Some c ∷ s = (cut found xs ys (None ∷ r) (Some c ∷ s) e f tt over h g).1 in
    absurd cc

pub missing_or_there : (found : List (Option (List ℕ))) (n : ℕ) (ds : List (List ℕ)) → IsMissing found n → AreAllFound found ds → ⊥
missing_or_there found n ds (xs, r, e, h, p) (f, g) =
    let rest : None ∷ r ≡ [] = (cut found xs ds (None ∷ r) [] e (all_of found ds f) tt tt h g).1 in
    absurd cc

pub long_or_there : (found : List (Option (List ℕ))) (n : ℕ) (ds : List (List ℕ)) → AreTooLong found n → AreAllFound found ds → ⊥
long_or_there found n ds (xs, b, r, e, h, past, p) (f, g) =
    let rest : Some b ∷ r ≡ [] = (cut found xs ds (Some b ∷ r) [] e (all_of found ds f) past tt h g).1 in
    absurd cc

pub one_there : (found : List (Option (List ℕ))) (ds es : List (List ℕ)) → AreAllFound found ds → AreAllFound found es → ds ≡ es
one_there found ds es (e, h) (f, g) = (cut found ds es [] [] (all_of found ds e) (all_of found es f) tt tt h g).0
