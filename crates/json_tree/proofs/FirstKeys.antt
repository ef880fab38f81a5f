-- Keys as they are written in tokens.
use Rattle.std.proofs.Common.{◌≡◌, ℕ, suc, ◌+◌, ◌<◌, ◌≤◌, ◌⊎◌, List, [], ◌∷◌, ◌++◌, length, take, get_or, append_assoc, ◌^◌, decimal, refl, sym, ap, ◌∙◌, inl, inr, arith}
use Rattle.std.specs.List.{slice_range, AllByRecursion}
use Rattle.std.proofs.Math.Seq.{take-suc}
use Rattle.std.proofs.lemmas.List.{append-nil}
use Rattle.std.proofs.lemmas.Bool.Decides.{nat_tests}
use Rattle.std.proofs.lemmas.Fmt.{digits_decimal}
use Rattle.std.proofs.lemmas.Str.Parse.{digit_from_value, numerals_by_value, tells_digits}
use Rattle.std.specs.Str.Parse.{AllDigits}
use Rattle.json_tree.specs.Pointers.{token_byte, token_text}
use Rattle.json_tree.specs.Machinery.Tokens.{IsBare}
use Rattle.json_tree.proofs.Escaped.{take_split}

pub slash_ascii : (b : ℕ) → (b ≡ 126) ⊎ (b ≡ 47) → b < 128
slash_ascii b (inl h) = omega (arith, h)
slash_ascii b (inr h) = omega (arith, h)

pub token_append : (xs ys : List ℕ) → token_text (xs ++ ys) ≡ token_text xs ++ token_text ys
token_append [] ys = refl
token_append (x ∷ xs) ys = ap (λ e. token_byte x ++ e) (token_append xs ys) ∙ sym (append_assoc (token_byte x) (token_text xs) (token_text ys))

pub token_bare : (xs : List ℕ) → AllByRecursion IsBare xs → token_text xs ≡ xs
token_bare [] h = refl
token_bare (x ∷ xs) h = ap (λ e. e ++ token_text xs) h.0 ∙ ap (λ e. x ∷ e) (token_bare xs h.1)

-- what was written, with a run behind it
pub run_written : (out before xs : List ℕ) (i j : ℕ) → i ≤ j → j ≤ length xs → AllByRecursion IsBare (slice_range xs i j)
    → out ≡ before ++ token_text (take i xs) → out ++ slice_range xs i j ≡ before ++ token_text (take j xs)
run_written out before xs i j low le bare h =
    let run = token_bare (slice_range xs i j) bare in
    rw (take_split xs i j low le, token_append (take i xs) (slice_range xs i j), run, h) (append_assoc before (token_text (take i xs)) (slice_range xs i j))

-- and with a byte that is escaped
pub byte_written : (out before xs : List ℕ) (i : ℕ) → i < length xs
    → out ≡ before ++ token_text (take i xs) → out ++ token_byte (get_or xs i 0) ≡ before ++ token_text (take (i + 1) xs)
byte_written out before xs i lt h =
    let more : take (i + 1) xs ≡ take i xs ++ get_or xs i 0 ∷ [] = let n : i + 1 ≡ suc i = omega arith in rw n (take-suc xs i 0 lt) in
    let one : token_text (get_or xs i 0 ∷ []) ≡ token_byte (get_or xs i 0) = append-nil (token_byte (get_or xs i 0)) in
    rw (more, token_append (take i xs) (get_or xs i 0 ∷ []), one, h) (append_assoc before (token_text (take i xs)) (token_byte (get_or xs i 0)))

bare : (b : ℕ) → 48 ≤ b → b ≤ 57 → IsBare b
bare b low high = grind (arith, nat_tests)

all_bare : (ds : List ℕ) → AllDigits 10 ds → AllByRecursion IsBare ds
all_bare [] h = tt
all_bare (d ∷ ds) h = let r = digit_from_value d h.0 in (bare d (omega (arith, r)) (omega (arith, r)), all_bare ds h.1)

-- digits stand for themselves
pub decimal_token : (n : ℕ) → n < 2 ^ 64 → token_text (decimal n) ≡ decimal n
decimal_token n h = token_bare (decimal n) (all_bare (decimal n) (digits_decimal (numerals_by_value (AllDigits 10) tells_digits) n h))
