-- What is in a list.
use Rattle.std.proofs.Common.{◌≡◌, ◌⊎◌, inl, inr, List, [], ◌∷◌, ◌++◌, Bool, true, false, cond, find, filter_map, Option, Some, None, refl, sym, ap, ◌∙◌}
use Rattle.std.specs.List.{cons_option}
use Rattle.local_rules.specs.Roles.{only}

abbrev pub Among : {X : Type 0} → X → List X → Type 0
Among x [] = ⊥
Among x (y ∷ ys) = (x ≡ y) ⊎ Among x ys

pub among_before : {X : Type 0} (x : X) (xs ys : List X) → Among x xs → Among x (xs ++ ys)
among_before x [] ys a = absurd a
among_before x (y ∷ xs) ys (inl same) = inl same
among_before x (y ∷ xs) ys (inr later) = inr (among_before x xs ys later)

-- what is found in a list is in it
pub found_among : {X : Type 0} (test : X → Bool) (xs : List X) (x : X) → find test xs ≡ Some x → Among x xs
found_among test [] x is = absurd cc
found_among test (y ∷ ys) x is = elim (test y) as (λ b. cond b (Some y) (find test ys) ≡ Some x → Among x (y ∷ ys)) [
  | true ↦ λ found. inl cc
  | false ↦ λ found. inr (found_among test ys x found)
] is

pub only_among : {X : Type 0} (xs : List X) (x : X) → only xs ≡ Some x → Among x xs
only_among [] x is = absurd cc
only_among (y ∷ []) x is = inl cc
only_among (y ∷ z ∷ zs) x is = absurd cc

-- what is in a list of the answers is the answer of something
pub mapped_among : {X Y : Type 0} (f : X → Option Y) (xs : List X) (y : Y) → Among y (filter_map f xs) → (x : X) × (f x ≡ Some y)
mapped_among f [] y among = absurd among
mapped_among {X} {Y} f (x ∷ xs) y among = elim (f x) as (λ o. f x ≡ o → Among y (cons_option o (filter_map f xs)) → (z : X) × (f z ≡ Some y)) [
  | None ↦ λ none later. mapped_among f xs y later
  | Some z ↦ λ is some. elim some [ inl same ↦ (x, is ∙ ap (λ w. Some w) (sym same)) | inr later ↦ mapped_among f xs y later ]
] refl among
