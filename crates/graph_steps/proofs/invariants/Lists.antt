-- What holds of all elements of a list, the first that passes a test, and the least for which a condition holds.
use Rattle.std.proofs.Common.{◌≡◌, ℕ, zero, suc, ◌<◌, ◌⊎◌, inl, inr, List, [], ◌∷◌, map, length, slice_index_or, Bool, true, false, cond, Some, None, refl, sym, ap, ◌∙◌, subst, Ordering, Less, arith}
use Rattle.std.specs.Prelude.{Contains}
use Rattle.std.specs.List.{AllByRecursion, find}
use Rattle.std.specs.List.Sorted.{IsStrictlySortedBy}
use Rattle.std.proofs.lemmas.Option.{same_Some, none-some}
use Rattle.std.proofs.lemmas.Map.Keys.{sorted_head, sorted_tail}
use Rattle.model_life.proofs.sets.Apart.{contains_head, contains_tail, uncons}

module _ {X : Type 0} where
  all_at_place : (P : X → Type 0) (xs : List X) (x : X) → AllByRecursion P xs → (k : ℕ) → k < length xs → slice_index_or xs k x ≡ x → P x
  all_at_place P [] x all k low is = absurd (omega (arith, low))
  all_at_place P (y ∷ ys) x all zero low is = subst P is all.0
  all_at_place P (y ∷ ys) x all (suc k) low is = all_at_place P ys x all.1 k (omega (arith, low)) is

  pub all_at : (P : X → Type 0) (xs : List X) (x : X) → AllByRecursion P xs → Contains xs x → P x
  all_at P xs x all (k, low, is) = all_at_place P xs x all k low is

  pub all_from : (P : X → Type 0) (xs : List X) → ((x : X) → Contains xs x → P x) → AllByRecursion P xs
  all_from P [] h = tt
  all_from P (x ∷ xs) h = (h x (contains_head x xs), all_from P xs (λ y c. h y (contains_tail x xs y c)))

  -- ---- the first that passes
  pub found_passes : (p : X → Bool) (xs : List X) (x : X) → find p xs ≡ Some x → (p x ≡ true) × Contains xs x
  found_passes p [] x h = absurd (none-some x h)
  found_passes p (y ∷ ys) x h =
      elim (p y) as (λ b. p y ≡ b → cond b (Some y) (find p ys) ≡ Some x → (p x ≡ true) × Contains (y ∷ ys) x) [
        | true ↦ λ e g. let same : y ≡ x = same_Some y x g in (ap p (sym same) ∙ e, subst (Contains (y ∷ ys)) same (contains_head y ys))
        | false ↦ λ e g. let later = found_passes p ys x g in (later.0, contains_tail y ys x later.1)
      ] refl h

  pub none_passes : (p : X → Bool) (xs : List X) → find p xs ≡ None → AllByRecursion (λ x. p x ≡ false) xs
  none_passes p [] h = tt
  none_passes p (y ∷ ys) h =
      elim (p y) as (λ b. p y ≡ b → cond b (Some y) (find p ys) ≡ None → (p y ≡ false) × AllByRecursion (λ x. p x ≡ false) ys) [
        | true ↦ λ e g. absurd (none-some y (sym g))
        | false ↦ λ e g. (e, none_passes p ys g)
      ] refl h

-- ---- the least
-- Where no element of a list in order is the least for which a condition holds, it holds for none: what is shown of each
-- element before is shown of the next.
module _ {X K : Type 0} (R : K → K → Ordering) (key : X → K) (Ill : X → Type 0) where
  abbrev pub IsLeast : List X → X → Type 0
  IsLeast xs x = Contains xs x × Ill x × ((other : X) → Contains xs other → Ill other → R (key other) (key x) ≡ Less → ⊥)

  -- Those from here on come behind all that were shown not to be ill.
  none_from : (whole rest : List X) → ((x : X) → Contains whole x → Ill x → Contains rest x) → ((x : X) → Contains rest x → Contains whole x)
      → ((x y : X) → Contains rest x → R (key x) (key y) ≡ Less → R (key y) (key x) ≡ Less → ⊥) → IsStrictlySortedBy R (map key rest) → ((x : X) → IsLeast whole x → ⊥) → (x : X) → Contains rest x → Ill x → ⊥
  none_from whole [] left within turn sorted none x (k, low, is) ill = omega (arith, low)
  none_from whole (y ∷ ys) left within turn sorted none x at ill =
      let later : AllByRecursion (λ k. R (key y) k ≡ Less) (map key ys) = sorted_head R (key y) (map key ys) sorted in
      let behind : (z : X) → Contains ys z → R (key y) (key z) ≡ Less = λ z c. all_at (λ z. R (key y) (key z) ≡ Less) ys z (unmapped ys later) c in
      let head : Ill y → ⊥ = λ h. none y (within y (contains_head y ys), h, λ other c bad less. by y ys other behind turn less (uncons y ys other (left other c bad))) in
      elim (uncons y ys x at) [
        | inl same ↦ head (subst Ill (sym same) ill)
        | inr c ↦ none_from whole ys (λ z d bad. narrowed head z bad (uncons y ys z (left z d bad))) (λ z d. within z (contains_tail y ys z d)) (λ a b d. turn a b (contains_tail y ys a d)) (sorted_tail R (key y) (map key ys) sorted) none x c ill
      ]
    where
      unmapped : (zs : List X) → AllByRecursion (λ k. R (key y) k ≡ Less) (map key zs) → AllByRecursion (λ z. R (key y) (key z) ≡ Less) zs
      unmapped [] a = tt
      unmapped (z ∷ zs) a = (a.0, unmapped zs a.1)

      by : (y : X) (ys : List X) (other : X) → ((z : X) → Contains ys z → R (key y) (key z) ≡ Less) → ((a b : X) → Contains (y ∷ ys) a → R (key a) (key b) ≡ Less → R (key b) (key a) ≡ Less → ⊥) → R (key other) (key y) ≡ Less → (y ≡ other) ⊎ Contains ys other → ⊥
      by y ys other behind turn less (inl same) = turn y y (contains_head y ys) (subst (λ z. R (key z) (key y) ≡ Less) (sym same) less) (subst (λ z. R (key z) (key y) ≡ Less) (sym same) less)
      by y ys other behind turn less (inr c) = turn y other (contains_head y ys) (behind other c) less

      narrowed : (Ill y → ⊥) → (z : X) → Ill z → (y ≡ z) ⊎ Contains ys z → Contains ys z
      narrowed head z bad (inl same) = absurd (head (subst Ill (sym same) bad))
      narrowed head z bad (inr c) = c

  pub none_ill : (xs : List X) → ((x y : X) → R (key x) (key y) ≡ Less → R (key y) (key x) ≡ Less → ⊥) → IsStrictlySortedBy R (map key xs) → ((x : X) → IsLeast xs x → ⊥) → (x : X) → Contains xs x → Ill x → ⊥
  none_ill xs turn sorted none x c ill = none_from xs xs (λ z d bad. d) (λ z d. d) (λ a b d. turn a b) sorted none x c ill
