-- The first of a list, as many as are kept.
use Rattle.std.proofs.Common.{◌≡◌, ℕ, ◌≤◌, List, [], ◌++◌, length, take, sym, ap, ◌∙◌, arith}
use Rattle.std.proofs.lemmas.Grind.{common_steps}

taken : {X : Type 0} (n : ℕ) (front rest : List X) → length front ≡ n → take n (front ++ rest) ≡ front
taken n front rest e = grind (arith, common_steps)

taken_all : {X : Type 0} (n : ℕ) (front : List X) → length front ≤ n → take n (front ++ []) ≡ front
taken_all n front e = grind (arith, common_steps)

-- they are as many as are asked for, and others may follow
pub take_front : {X : Type 0} (n : ℕ) (front rest whole : List X) → front ++ rest ≡ whole → length front ≡ n → front ≡ take n whole
take_front n front rest whole h e = sym (taken n front rest e) ∙ ap (take n) h

-- there are no more
pub take_all : {X : Type 0} (n : ℕ) (front whole : List X) → front ++ [] ≡ whole → length front ≤ n → front ≡ take n whole
take_all n front whole h e = sym (taken_all n front e) ∙ ap (take n) h
