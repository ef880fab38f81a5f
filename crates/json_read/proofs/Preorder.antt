-- The order of places, as it is decided.
use Rattle.std.proofs.Common.{◌≡◌, ℕ, ◌<◌, inl, inr, List, [], ◌∷◌, true, false, nat_eq, nat_lt, arith, rules}
use Rattle.json_tree.specs.Places.{IsBefore}
use Rattle.json_read.specs.Machinery.Ways.{place_is_before}
use Rattle.json_tree.proofs.Choices.{chosen, is_byte, no_byte}

lt_true : (i j : ℕ) → nat_lt i j ≡ true → i < j
lt_true i j h = search rules

lt_false : (i j : ℕ) → nat_lt i j ≡ false → i < j → ⊥
lt_false i j h l = search rules

pub is_before-true : (p q : List ℕ) → place_is_before p q ≡ true → IsBefore p q
is_before-true p [] e = absurd cc
is_before-true [] (j ∷ q) e = tt
is_before-true (i ∷ p) (j ∷ q) e = elim (chosen (λ b. b ≡ true) (nat_eq i j) (place_is_before p q) (nat_lt i j) e) [
  | inl h ↦ inr (is_byte i j h.0, is_before-true p q h.1)
  | inr h ↦ inl (lt_true i j h.1)
]

pub is_before-false : (p q : List ℕ) → place_is_before p q ≡ false → IsBefore p q → ⊥
is_before-false p [] e h = h
is_before-false [] (j ∷ q) e h = absurd cc
is_before-false (i ∷ p) (j ∷ q) e h = elim (chosen (λ b. b ≡ false) (nat_eq i j) (place_is_before p q) (nat_lt i j) e) [
  | inl g ↦ (let same : i ≡ j = is_byte i j g.0 in elim h [ inl l ↦ omega (arith, l, same) | inr r ↦ is_before-false p q g.1 r.1 ])
  | inr g ↦ elim h [ inl l ↦ lt_false i j g.1 l | inr r ↦ no_byte i j g.0 r.0 ]
]
