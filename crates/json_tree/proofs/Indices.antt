-- Indices in tokens, and what stands at a position of a token.
use Rattle.std.proofs.Common.{◌≡◌, ℕ, zero, suc, ◌+◌, ◌<◌, ◌≤◌, ◌^◌, List, [], ◌∷◌, length, drop, get_or, decimal, Result, Ok, Err, refl, sym, ap, ◌∙◌, subst, arith}
use Rattle.std.specs.Prelude.{MatchOption}
use Rattle.std.specs.Result.{result_ok}
use Rattle.std.specs.Str.Parse.{AllDigits, digits_value, ParsesUnsigned}
use Rattle.std.proofs.lemmas.Fmt.{parse-decimal, decimal-digits_value, decimal_nonempty, first_decimal, decimal_digit}
use Rattle.std.proofs.lemmas.Str.Parse.{IsNumeralModel, numerals_by_value, tells_digits, parse_plain}
use Rattle.json_tree.specs.Machinery.Tokens.{HasIndexForm}

own : IsNumeralModel (AllDigits 10) (digits_value 10)
own = numerals_by_value (AllDigits 10) tells_digits

index_form : (i : ℕ) → i < 2 ^ 64 → HasIndexForm (decimal i)
index_form zero h = rw (decimal_digit 0 (omega arith)) (omega arith, (λ e. absurd (omega (arith, e))), λ _. refl)
index_form (suc i) h =
    let first = first_decimal (suc i) (omega arith) h in
    (decimal_nonempty (suc i) h, (λ e. absurd (omega (arith, first, e))), λ e. absurd (omega (arith, first, e)))

pub no_index : (bytes : List ℕ) → (HasIndexForm bytes → ⊥) → (i : ℕ) → i < 2 ^ 64 → bytes ≡ decimal i → ⊥
no_index bytes h i lt e = h (subst HasIndexForm (sym e) (index_form i lt))

pub index_matches : {E : Type 0} (bytes : List ℕ) (r : Result ℕ E) → HasIndexForm bytes → ParsesUnsigned 64 10 bytes r
    → MatchOption (result_ok r) ((i : ℕ) → i < 2 ^ 64 → bytes ≡ decimal i → ⊥) (λ i. (i < 2 ^ 64) × (bytes ≡ decimal i))
index_matches {E} bytes (Ok n) form h =
    let p = parse_plain own {E = E} 64 bytes (Ok n) h form.1 in
    let d = p.0 in
    let low = d.2 in let same = p.1 in
    (omega (arith, low, same), sym (decimal-digits_value own bytes d.0 d.1 form.2 d.2) ∙ ap decimal (sym p.1))
index_matches {E} bytes (Err e) form h = λ i lt is. let same : Err e ≡ Ok i = parse-decimal 64 i bytes (Err e) lt lt is h in cc

-- what a list has where what it drops begins with one item, or two
one : (xs : List ℕ) (at a : ℕ) (rest : List ℕ) → drop at xs ≡ a ∷ rest → (at < length xs) × (get_or xs at 0 ≡ a)
one [] zero a rest h = absurd cc
one [] (suc at) a rest h = absurd cc
one (x ∷ xs) zero a rest h = (omega arith, cc)
one (x ∷ xs) (suc at) a rest h = let r = one xs at a rest h in (omega (arith, r.0), r.1)

two : (xs : List ℕ) (at a b : ℕ) (rest : List ℕ) → drop at xs ≡ a ∷ b ∷ rest → (suc at < length xs) × (get_or xs at 0 ≡ a) × (get_or xs (suc at) 0 ≡ b)
two [] zero a b rest h = absurd cc
two [] (suc at) a b rest h = absurd cc
two (x ∷ xs) zero a b rest h = let e : xs ≡ b ∷ rest = cc in let r = one xs zero b rest e in (omega (arith, r.0), cc, r.1)
two (x ∷ xs) (suc at) a b rest h = let r = two xs at a b rest h in (omega (arith, r.0), r.1, r.2)

pub one_short : (xs : List ℕ) (at a : ℕ) (rest : List ℕ) → length xs ≤ at → drop at xs ≡ a ∷ rest → ⊥
one_short xs at a rest short h = let r = one xs at a rest h in omega (arith, short, r.0)

pub one_other : (xs : List ℕ) (at a : ℕ) (rest : List ℕ) → (get_or xs at 0 ≡ a → ⊥) → drop at xs ≡ a ∷ rest → ⊥
one_other xs at a rest other h = other (one xs at a rest h).1

pub one_there : (xs : List ℕ) (at a : ℕ) → at < length xs → get_or xs at 0 ≡ a → drop at xs ≡ a ∷ drop (at + 1) xs
one_there [] at a lt is = absurd (omega (arith, lt))
one_there (x ∷ xs) zero a lt is = ap (λ y. y ∷ xs) is
one_there (x ∷ xs) (suc at) a lt is = let n : suc at + 1 ≡ suc (at + 1) = omega arith in rw n (one_there xs at a (omega (arith, lt)) is)

pub two_short : (xs : List ℕ) (at a b : ℕ) (rest : List ℕ) → length xs < at + 2 → drop at xs ≡ a ∷ b ∷ rest → ⊥
two_short xs at a b rest short h = let r = two xs at a b rest h in omega (arith, short, r.0)

pub two_first : (xs : List ℕ) (at a b : ℕ) (rest : List ℕ) → (get_or xs at 0 ≡ a → ⊥) → drop at xs ≡ a ∷ b ∷ rest → ⊥
two_first xs at a b rest other h = other (two xs at a b rest h).1

pub two_second : (xs : List ℕ) (at a b : ℕ) (rest : List ℕ) → (get_or xs (at + 1) 0 ≡ b → ⊥) → drop at xs ≡ a ∷ b ∷ rest → ⊥
two_second xs at a b rest other h = let n : at + 1 ≡ suc at = omega arith in other (rw n (two xs at a b rest h).2)
