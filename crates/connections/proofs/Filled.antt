-- What fills up a list that is too short.
use Rattle.std.proofs.Common.{◌≡◌, ℕ, zero, suc, ◌-◌, List, [], ◌∷◌, ◌++◌, length, take, replicate, refl, ap, arith}
use Rattle.connections.specs.Turns.{filled}

filled-none : {A : Type 0} (other : A) (n : ℕ) → filled other n [] ≡ replicate n other
filled-none other zero = refl
filled-none other (suc n) = ap (λ entries. other ∷ entries) (filled-none other n)

-- The front of the list, and behind it as many others as it lacks.
pub filled-is : {A : Type 0} (other : A) (n : ℕ) (entries : List A) → filled other n entries ≡ take n entries ++ replicate (n - length entries) other
filled-is other zero [] = refl
filled-is other zero (entry ∷ entries) =
    let none : 0 - length (entry ∷ entries) ≡ 0 = omega arith in
    rw none refl
filled-is {A} other (suc n) [] =
    let all : suc n - length {A = A} [] ≡ suc n = omega arith in
    rw all (filled-none other (suc n))
filled-is other (suc n) (entry ∷ entries) =
    let same : suc n - length (entry ∷ entries) ≡ n - length entries = omega arith in
    rw same (ap (λ rest. entry ∷ rest) (filled-is other n entries))
