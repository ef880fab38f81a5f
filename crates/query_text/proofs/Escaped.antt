-- Texts as they are printed.
use Rattle.std.proofs.Common.{◌≡◌, ℕ, zero, suc, ◌+◌, ◌-◌, ◌<◌, ◌≤◌, List, [], ◌∷◌, ◌++◌, length, take, drop, get_or, append_assoc, refl, sym, ap, ◌∙◌, inl, inr, subst, arith}
use Rattle.std.specs.List.{slice_range, AllByRecursion}
use Rattle.std.proofs.Math.Seq.{take-suc}
use Rattle.std.proofs.lemmas.List.{append-nil, get_or-drop, length-drop}
use Rattle.query_text.specs.Printed.{escaped_query_byte, escaped_query}
use Rattle.query_text.specs.Machinery.Parts.{IsPlainInQuery, IsEscapedInQuery}

-- a byte that is escaped is ASCII
pub escaped_ascii : (b : ℕ) → IsEscapedInQuery b → b < 128
escaped_ascii b (inl h) = omega (arith, h)
escaped_ascii b (inr (inl h)) = omega (arith, h)
escaped_ascii b (inr (inr (inl h))) = omega (arith, h)
escaped_ascii b (inr (inr (inr (inl h)))) = omega (arith, h)
escaped_ascii b (inr (inr (inr (inr h)))) = omega (arith, h)

pub escaped_append : (xs ys : List ℕ) → escaped_query (xs ++ ys) ≡ escaped_query xs ++ escaped_query ys
escaped_append [] ys = refl
escaped_append (x ∷ xs) ys = ap (λ e. escaped_query_byte x ++ e) (escaped_append xs ys) ∙ sym (append_assoc (escaped_query_byte x) (escaped_query xs) (escaped_query ys))

pub escaped_plain : (xs : List ℕ) → AllByRecursion IsPlainInQuery xs → escaped_query xs ≡ xs
escaped_plain [] h = refl
escaped_plain (x ∷ xs) h = ap (λ e. e ++ escaped_query xs) h.0 ∙ ap (λ e. x ∷ e) (escaped_plain xs h.1)

all_more : (P : ℕ → Type 0) (xs : List ℕ) (x : ℕ) → AllByRecursion P xs → P x → AllByRecursion P (xs ++ x ∷ [])
all_more P [] x h p = (p, tt)
all_more P (y ∷ xs) x h p = (h.0, all_more P xs x h.1 p)

-- a part with one more item
slice_more : (xs : List ℕ) (i j : ℕ) → i ≤ j → j < length xs → slice_range xs i (j + 1) ≡ slice_range xs i j ++ get_or xs j 0 ∷ []
slice_more xs i j low lt =
    let n : (j + 1) - i ≡ suc (j - i) = omega arith in
    let there : i + (j - i) ≡ j = omega arith in
    let size : length (drop i xs) ≡ length xs - i = length-drop i xs in
    let within : j - i < length (drop i xs) = omega (arith, size) in
    rw n (take-suc (drop i xs) (j - i) 0 within ∙ ap (λ x. take (j - i) (drop i xs) ++ x ∷ []) (get_or-drop i xs (j - i) 0 ∙ ap (λ k. get_or xs k 0) there))

pub all_of_more : (P : ℕ → Type 0) (xs : List ℕ) (i j x : ℕ) → i ≤ j → j < length xs → x ≡ get_or xs j 0
    → AllByRecursion P (slice_range xs i j) → P x → AllByRecursion P (slice_range xs i (j + 1))
all_of_more P xs i j x low lt is all p =
    rw (slice_more xs i j low lt) (all_more P (slice_range xs i j) (get_or xs j 0) all (subst P is p))

pub take_split : (xs : List ℕ) (i j : ℕ) → i ≤ j → j ≤ length xs → take j xs ≡ take i xs ++ slice_range xs i j
take_split [] zero zero low le = refl
take_split [] zero (suc j) low le = absurd (omega (arith, le))
take_split [] (suc i) zero low le = absurd (omega (arith, low))
take_split [] (suc i) (suc j) low le = absurd (omega (arith, le))
take_split (x ∷ xs) zero zero low le = refl
take_split (x ∷ xs) zero (suc j) low le = let n : suc j - 0 ≡ suc j = omega arith in rw n refl
take_split (x ∷ xs) (suc i) zero low le = absurd (omega (arith, low))
take_split (x ∷ xs) (suc i) (suc j) low le =
    let n : suc j - suc i ≡ j - i = omega arith in
    rw n (ap (λ (e : List ℕ). x ∷ e) (take_split xs i j (omega (arith, low)) (omega (arith, le))))

-- what was printed, with a run behind it
pub run_printed : (out before xs : List ℕ) (i j : ℕ) → i ≤ j → j ≤ length xs → AllByRecursion IsPlainInQuery (slice_range xs i j)
    → out ≡ before ++ escaped_query (take i xs) → out ++ slice_range xs i j ≡ before ++ escaped_query (take j xs)
run_printed out before xs i j low le plain h =
    let run = escaped_plain (slice_range xs i j) plain in
    rw (take_split xs i j low le, escaped_append (take i xs) (slice_range xs i j), run, h) (append_assoc before (escaped_query (take i xs)) (slice_range xs i j))

-- and with a byte that is escaped
pub byte_printed : (out before xs : List ℕ) (i : ℕ) → i < length xs
    → out ≡ before ++ escaped_query (take i xs) → out ++ escaped_query_byte (get_or xs i 0) ≡ before ++ escaped_query (take (i + 1) xs)
byte_printed out before xs i lt h =
    let more : take (i + 1) xs ≡ take i xs ++ get_or xs i 0 ∷ [] = let n : i + 1 ≡ suc i = omega arith in rw n (take-suc xs i 0 lt) in
    let one : escaped_query (get_or xs i 0 ∷ []) ≡ escaped_query_byte (get_or xs i 0) = append-nil (escaped_query_byte (get_or xs i 0)) in
    rw (more, escaped_append (take i xs) (get_or xs i 0 ∷ []), one, h) (append_assoc before (escaped_query (take i xs)) (escaped_query_byte (get_or xs i 0)))
