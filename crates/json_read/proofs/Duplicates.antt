-- The first member, in preorder, with a key that an earlier one has.
use Rattle.std.proofs.Common.{◌≡◌, ℕ, ◌+◌, ◌<◌, ◌⊎◌, inl, inr, List, [], ◌∷◌, ◌++◌, reverse, Some, None, refl, sym, ap, subst, arith}
use Rattle.std.proofs.lemmas.List.{reverse-append}
use Rattle.std.proofs.lemmas.Bool.{cases_lt}
use Rattle.json_tree.specs.Values.{Value, null, truth, number, text, array, object}
use Rattle.json_tree.specs.Places.{IsPart, IsBefore}
use Rattle.json_read.specs.Faults.{RepeatsKey, IsDuplicateAt}
use Rattle.json_read.specs.Machinery.Ways.{IsFirstAt, IsFirstDuplicate}
use Rattle.json_tree.proofs.Parts.{one_part}

-- a member whose key stands twice is a part
pub repeat_part : {N : Type 0} (v : Value N) (i : ℕ) → RepeatsKey v i → (part : Value N) × IsPart v i part
repeat_part null i r = absurd r
repeat_part (truth t) i r = absurd r
repeat_part (number n) i r = absurd r
repeat_part (text t) i r = absurd r
repeat_part (array vs) i r = absurd r
repeat_part (object ms) i r = (r.1, (r.0, r.4))

-- a place of one step more
pub reverse_more : (up : List ℕ) (i : ℕ) → reverse (up ++ i ∷ []) ≡ i ∷ reverse up
reverse_more up i = reverse-append up (i ∷ [])

pub duplicate_root : {N : Type 0} (v : Value N) → IsDuplicateAt v [] → ⊥
duplicate_root v ([], i, around, e, s, r) = absurd cc
duplicate_root v (j ∷ parent, i, around, e, s, r) = absurd cc

-- either the member itself, or in a part
pub duplicate_down : {N : Type 0} (v : Value N) (i : ℕ) (place : List ℕ) → IsDuplicateAt v (i ∷ place)
    → ((place ≡ []) × RepeatsKey v i) ⊎ ((part : Value N) × IsPart v i part × IsDuplicateAt part place)
duplicate_down {N} v i place ([], j, around, e, s, r) =
    let f : i ≡ j = cc in
    let g : place ≡ [] = cc in
    inl (g, subst (λ (n : ℕ). RepeatsKey v n) (sym f) (subst (λ (w : Value N). RepeatsKey w j) (sym s) r))
duplicate_down {N} v i place (n ∷ parent, j, around, e, s, r) =
    let f : i ≡ n = cc in
    let g : place ≡ parent ++ j ∷ [] = cc in
    inr (s.0, subst (λ (m : ℕ). IsPart v m s.0) (sym f) s.1, (parent, j, around, g, s.2, r))

pub duplicate_up : {N : Type 0} (v : Value N) (i : ℕ) (part : Value N) (place : List ℕ) → IsPart v i part → IsDuplicateAt part place → IsDuplicateAt v (i ∷ place)
duplicate_up v i part place p (parent, j, around, e, s, r) = (i ∷ parent, j, around, ap (λ (x : List ℕ). i ∷ x) e, (part, p, s), r)

pub duplicate_here : {N : Type 0} (v : Value N) (i : ℕ) → RepeatsKey v i → IsDuplicateAt v (i ∷ [])
duplicate_here v i r = ([], i, v, refl, refl, r)

-- ---- from part to part
-- no part before this position has one
abbrev pub IsClear : {N : Type 0} → Value N → ℕ → Type 0
IsClear v at = (j : ℕ) (place : List ℕ) → j < at → IsDuplicateAt v (j ∷ place) → ⊥

found_before : {N : Type 0} (v : Value N) (at : ℕ) (part : Value N) (place : List ℕ) → IsPart v at part → (RepeatsKey v at → ⊥) → IsClear v at
    → IsFirstAt (IsDuplicateAt part) place → (before : List ℕ) → IsBefore before (at ∷ place) → IsDuplicateAt v before → ⊥
found_before v at part place p r clear first [] lt d = duplicate_root v d
found_before {N} v at part place p r clear first (j ∷ before) lt d = elim lt [
  | inl l ↦ clear j before l d
  | inr h ↦ (let d2 : IsDuplicateAt v (at ∷ before) = subst (λ (n : ℕ). IsDuplicateAt v (n ∷ before)) h.0 d in
      elim (duplicate_down v at before d2) [
        | inl q ↦ r q.1
        | inr q ↦ first.1 before h.1 (subst (λ (w : Value N). IsDuplicateAt w before) (one_part v at q.0 part q.1 p) q.2)
      ])
]

pub found_in : {N : Type 0} (v : Value N) (at : ℕ) (part : Value N) (up : List ℕ) → IsPart v at part → (RepeatsKey v at → ⊥) → IsClear v at
    → IsFirstDuplicate part (Some up) → IsFirstDuplicate v (Some (up ++ at ∷ []))
found_in v at part up p r clear first =
    subst (IsFirstAt (IsDuplicateAt v)) (sym (reverse_more up at))
    (duplicate_up v at part (reverse up) p first.0, found_before v at part (reverse up) p r clear first)

repeat_before : {N : Type 0} (v : Value N) (at : ℕ) → IsClear v at → (before : List ℕ) → IsBefore before (at ∷ []) → IsDuplicateAt v before → ⊥
repeat_before v at clear [] lt d = duplicate_root v d
repeat_before v at clear (j ∷ before) lt d = elim lt [ inl l ↦ clear j before l d | inr h ↦ absurd h.1 ]

pub found_repeat : {N : Type 0} (v : Value N) (at : ℕ) → IsClear v at → RepeatsKey v at → IsFirstDuplicate v (Some (at ∷ []))
found_repeat v at clear r = (duplicate_here v at r, repeat_before v at clear)

pub clear_more : {N : Type 0} (v : Value N) (at : ℕ) (part : Value N) → IsPart v at part → (RepeatsKey v at → ⊥) → IsClear v at
    → IsFirstDuplicate part None → IsClear v (at + 1)
clear_more {N} v at part p r clear none j place lt d =
    elim (cases_lt j at) [
      | inl l ↦ clear j place l d
      | inr ge ↦ (let e : j ≡ at = omega (arith, lt, ge) in
          let d2 : IsDuplicateAt v (at ∷ place) = subst (λ (n : ℕ). IsDuplicateAt v (n ∷ place)) e d in
          elim (duplicate_down v at place d2) [
            | inl q ↦ r q.1
            | inr q ↦ none place (subst (λ (w : Value N). IsDuplicateAt w place) (one_part v at q.0 part q.1 p) q.2)
          ])
    ]

pub clear_all : {N : Type 0} (v : Value N) (n : ℕ) → IsClear v n → ((i : ℕ) (part : Value N) → IsPart v i part → i < n) → IsFirstDuplicate v None
clear_all v n clear within [] d = duplicate_root v d
clear_all v n clear within (i ∷ place) d = elim (duplicate_down v i place d) [
  | inl q ↦ (let p = repeat_part v i q.1 in clear i place (within i p.0 p.1) d)
  | inr q ↦ clear i place (within i q.0 q.1) d
]

-- what has no parts has none
pub none_in_leaf : {N : Type 0} (v : Value N) → ((i : ℕ) (part : Value N) → IsPart v i part → ⊥) → IsFirstDuplicate v None
none_in_leaf v h = clear_all v 0 (λ j place lt d. absurd (omega (arith, lt))) (λ i part p. absurd (h i part p))
