-- The order of places: of two places one comes before the other, unless they are one.
use Rattle.std.proofs.Common.{◌≡◌, ℕ, ◌<◌, ◌⊎◌, inl, inr, List, [], ◌∷◌, refl, sym, ap₂, ◌∙◌, arith}
use Rattle.std.proofs.lemmas.Bool.{cases_order}
use Rattle.json_tree.specs.Places.{IsBefore}

pub not_before_itself : (p : List ℕ) → IsBefore p p → ⊥
not_before_itself [] h = h
not_before_itself (i ∷ p) (inl l) = absurd (omega (arith, l))
not_before_itself (i ∷ p) (inr h) = not_before_itself p h.1

pub before_through : (p q r : List ℕ) → IsBefore p q → IsBefore q r → IsBefore p r
before_through p q [] h g = absurd g
before_through p [] (k ∷ r) h g = absurd h
before_through [] (j ∷ q) (k ∷ r) h g = tt
before_through (i ∷ p) (j ∷ q) (k ∷ r) (inl h) (inl g) = inl (omega (arith, h, g))
before_through (i ∷ p) (j ∷ q) (k ∷ r) (inl h) (inr g) = let e = g.0 in inl (omega (arith, h, e))
before_through (i ∷ p) (j ∷ q) (k ∷ r) (inr h) (inl g) = let e = h.0 in inl (omega (arith, e, g))
before_through (i ∷ p) (j ∷ q) (k ∷ r) (inr h) (inr g) = inr (h.0 ∙ g.0, before_through p q r h.1 g.1)

pub before_cases : (p q : List ℕ) → (p ≡ q) ⊎ IsBefore p q ⊎ IsBefore q p
before_cases [] [] = inl refl
before_cases [] (j ∷ q) = inr (inl tt)
before_cases (i ∷ p) [] = inr (inr tt)
before_cases (i ∷ p) (j ∷ q) = elim (cases_order i j) [
  | inl e ↦ elim (before_cases p q) [
    | inl f ↦ inl (ap₂ (λ (n : ℕ) (r : List ℕ). n ∷ r) e f)
    | inr (inl h) ↦ inr (inl (inr (e, h)))
    | inr (inr h) ↦ inr (inr (inr (sym e, h)))
  ]
  | inr (inl l) ↦ inr (inl (inl l))
  | inr (inr l) ↦ inr (inr (inl l))
]
