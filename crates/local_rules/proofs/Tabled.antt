-- The first of two lists.
use Rattle.std.proofs.Common.{◌≡◌, List, [], ◌∷◌, ◌++◌, Bool, true, false, cond, Some, None, refl}
use Rattle.std.specs.List.{find}

pub found_before : {X : Type 0} (test : X → Bool) (xs ys : List X) (x : X) → find test xs ≡ Some x → find test (xs ++ ys) ≡ Some x
found_before test [] ys x e = absurd cc
found_before test (y ∷ xs) ys x e = elim (test y) as (λ b. cond b (Some y) (find test xs) ≡ Some x → cond b (Some y) (find test (xs ++ ys)) ≡ Some x) [
  | true ↦ λ f. f
  | false ↦ λ f. found_before test xs ys x f
] e

pub found_behind : {X : Type 0} (test : X → Bool) (xs ys : List X) → find test xs ≡ None → find test (xs ++ ys) ≡ find test ys
found_behind test [] ys e = refl
found_behind test (y ∷ xs) ys e = elim (test y) as (λ b. cond b (Some y) (find test xs) ≡ None → cond b (Some y) (find test (xs ++ ys)) ≡ find test ys) [
  | true ↦ λ f. absurd cc
  | false ↦ λ f. found_behind test xs ys f
] e
