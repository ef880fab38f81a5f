-- Of the places of a value that have a property one is the first in preorder, where there is one.
use Rattle.std.proofs.Common.{◌≡◌, ℕ, zero, suc, ◌⊎◌, inl, inr, List, [], ◌∷◌, Some, sym, ap, subst, arith}
use Rattle.dt_base.specs.Existence.{IsThere}
use Rattle.dt_base.proofs.Existence.{is_there, holds_or_not, from_there, map_there}
use Rattle.json_tree.specs.Values.{Value, null, truth, number, text, array, object, Elements, no_elements, element, Members, no_members, member}
use Rattle.json_tree.specs.Places.{element_at, member_at, IsSomewhere, IsBefore}

-- The first place that has the property.
abbrev pub IsFirstPlace : (List ℕ → Type 0) → List ℕ → Type 0
IsFirstPlace At place = At place × ((before : List ℕ) → IsBefore before place → At before → ⊥)

-- There is a first one, or none.
abbrev pub FirstOrNone : (List ℕ → Type 0) → Type 0
FirstOrNone At = ((place : List ℕ) × IsFirstPlace At place) ⊎ ((place : List ℕ) → At place → ⊥)

-- ---- the same of places below a root, by their first step and what follows
abbrev IsFirstBelow : (ℕ → List ℕ → Type 0) → ℕ → List ℕ → Type 0
IsFirstBelow At i place = At i place × ((j : ℕ) (before : List ℕ) → IsBefore (j ∷ before) (i ∷ place) → At j before → ⊥)

abbrev FirstBelowOrNone : (ℕ → List ℕ → Type 0) → Type 0
FirstBelowOrNone At = ((i : ℕ) × (place : List ℕ) × IsFirstBelow At i place) ⊎ ((i : ℕ) (place : List ℕ) → At i place → ⊥)

before_first : (At : ℕ → List ℕ → Type 0) (place : List ℕ) → IsFirstPlace (At 0) place
    → (j : ℕ) (before : List ℕ) → IsBefore (j ∷ before) (0 ∷ place) → At j before → ⊥
before_first At place first zero before less p = elim less [ inl l ↦ omega (arith, l) | inr e ↦ first.1 before e.1 p ]
before_first At place first (suc j) before less p = elim less [ inl l ↦ omega (arith, l) | inr e ↦ (let same = e.0 in omega (arith, same)) ]

before_later : (At : ℕ → List ℕ → Type 0) → ((place : List ℕ) → At 0 place → ⊥) → (i : ℕ) (place : List ℕ) → IsFirstBelow (λ k. At (suc k)) i place
    → (j : ℕ) (before : List ℕ) → IsBefore (j ∷ before) (suc i ∷ place) → At j before → ⊥
before_later At none i place first zero before less p = none before p
before_later At none i place first (suc j) before less p = elim less [
  | inl l ↦ first.1 j before (inl (omega (arith, l))) p
  | inr e ↦ (let same = e.0 in first.1 j before (inr (omega (arith, same), e.1)) p)
]

none_at_all : (At : ℕ → List ℕ → Type 0) → ((place : List ℕ) → At 0 place → ⊥) → ((i : ℕ) (place : List ℕ) → At (suc i) place → ⊥)
    → (i : ℕ) (place : List ℕ) → At i place → ⊥
none_at_all At here later zero place p = here place p
none_at_all At here later (suc i) place p = later i place p

-- from a first part and those that follow it
joined : (At : ℕ → List ℕ → Type 0) → FirstOrNone (At 0) → FirstBelowOrNone (λ i. At (suc i)) → FirstBelowOrNone At
joined At (inl (place, first)) later = inl (0, place, (first.0, before_first At place first))
joined At (inr none) (inl (i, place, first)) = inl (suc i, place, (first.0, before_later At none i place first))
joined At (inr none) (inr later) = inr (none_at_all At none later)

-- from the root and what is below it
before_below : (At : List ℕ → Type 0) → (At [] → ⊥) → (i : ℕ) (place : List ℕ) → IsFirstBelow (λ j rest. At (j ∷ rest)) i place
    → (before : List ℕ) → IsBefore before (i ∷ place) → At before → ⊥
before_below At root i place first [] less p = root p
before_below At root i place first (j ∷ before) less p = first.1 j before less p

none_anywhere : (At : List ℕ → Type 0) → (At [] → ⊥) → ((i : ℕ) (place : List ℕ) → At (i ∷ place) → ⊥) → (place : List ℕ) → At place → ⊥
none_anywhere At root below [] p = root p
none_anywhere At root below (i ∷ place) p = below i place p

rooted : (At : List ℕ → Type 0) → At [] ⊎ (At [] → ⊥) → FirstBelowOrNone (λ i place. At (i ∷ place)) → FirstOrNone At
rooted At (inl here) below = inl ([], (here, λ before less p. less))
rooted At (inr none) (inl (i, place, first)) = inl (i ∷ place, (first.0, before_below At none i place first))
rooted At (inr none) (inr below) = inr (none_anywhere At none below)

from_parts : (At : List ℕ → Type 0) → IsThere (FirstBelowOrNone (λ i place. At (i ∷ place))) → IsThere (FirstOrNone At)
from_parts At below =
    from_there below (λ b. map_there (λ (root : At [] ⊎ (At [] → ⊥)). rooted At root b) (holds_or_not (At [])))

leaf : (At : List ℕ → Type 0) → ((i : ℕ) (place : List ℕ) → At (i ∷ place) → ⊥) → IsThere (FirstOrNone At)
leaf At none = from_parts At (is_there (inr none))

-- ---- of a value: the property holds only at places where something stands
mutual
  pub first_place : {N : Type 0} (v : Value N) (At : List ℕ → Type 0) → ((place : List ℕ) → At place → IsSomewhere v place) → IsThere (FirstOrNone At)
  first_place null At within = leaf At (λ i place p. let s = within (i ∷ place) p in s.1.1)
  first_place (truth b) At within = leaf At (λ i place p. let s = within (i ∷ place) p in s.1.1)
  first_place (number n) At within = leaf At (λ i place p. let s = within (i ∷ place) p in s.1.1)
  first_place (text t) At within = leaf At (λ i place p. let s = within (i ∷ place) p in s.1.1)
  first_place (array vs) At within = from_parts At (first_of_elements vs (λ i place. At (i ∷ place))
      (λ i place p. let s = within (i ∷ place) p in (s.1.0, s.1.1, (s.0, s.1.2))))
  first_place (object ms) At within = from_parts At (first_of_members ms (λ i place. At (i ∷ place))
      (λ i place p. let s = within (i ∷ place) p in (s.1.1.0, s.1.0, s.1.1.1, (s.0, s.1.2))))

  first_of_elements : {N : Type 0} (vs : Elements N) (At : ℕ → List ℕ → Type 0)
      → ((i : ℕ) (place : List ℕ) → At i place → (part : Value N) × (element_at vs i ≡ Some part) × IsSomewhere part place)
      → IsThere (FirstBelowOrNone At)
  first_of_elements no_elements At within = is_there (inr (λ i place p. let w = within i place p in let e = w.1 in absurd cc))
  first_of_elements {N} (element v vs) At within =
      from_there (first_place v (At 0) (λ place p. let w = within 0 place p in let e : Some v ≡ Some w.0 = w.1 in let same : v ≡ w.0 = cc in
      subst (λ (x : Value N). IsSomewhere x place) (sym same) w.2))
      (λ here. map_there (λ (later : FirstBelowOrNone (λ i. At (suc i))). joined At here later)
      (first_of_elements vs (λ i. At (suc i)) (λ i. within (suc i))))

  first_of_members : {N : Type 0} (ms : Members N) (At : ℕ → List ℕ → Type 0)
      → ((i : ℕ) (place : List ℕ) → At i place → (key : List ℕ) × (part : Value N) × (member_at ms i ≡ Some (key, part)) × IsSomewhere part place)
      → IsThere (FirstBelowOrNone At)
  first_of_members no_members At within = is_there (inr (λ i place p. let w = within i place p in let e = w.2 in absurd cc))
  first_of_members {N} (member k v ms) At within =
      from_there (first_place v (At 0) (λ place p. let w = within 0 place p in let e : Some (k, v) ≡ Some (w.0, w.1) = w.2 in
      let pair : (k, v) ≡ (w.0, w.1) = cc in
      let same : v ≡ w.1 = ap (λ (m : List ℕ × Value N). m.1) pair in
      subst (λ (x : Value N). IsSomewhere x place) (sym same) w.3))
      (λ here. map_there (λ (later : FirstBelowOrNone (λ i. At (suc i))). joined At here later)
      (first_of_members ms (λ i. At (suc i)) (λ i. within (suc i))))
