-- A seat stands for each of its passes once.
use Rattle.std.proofs.Common.{◌≡◌, ◌≢◌, ℕ, zero, suc, ◌+◌, ◌⊎◌, List, [], ◌∷◌, ◌++◌, length, set, sym, refl, ap, ◌∙◌, subst, inl, inr, ⊎_elim, arith}
use mathlib.Core.Option.{some, some-ne-none}
use lib.ListN.{get_elem?}
use Rattle.atomic_table.proofs.Lists.{at_set}
use Rattle.one_history.specs.declared.history.Member.{Member}
use Rattle.one_history.specs.declared.history.View.{View}
use Rattle.one_history.specs.Machinery.Rules.{StandsIn, AreApart}
use Rattle.one_history.proofs.Places.{end_at}

module _ {X : Type 0} where
  split_at : (xs ys : List X) (k : ℕ) (y : X) → get_elem? (xs ++ ys) k ≡ some y → (get_elem? xs k ≡ some y) ⊎ ((i : ℕ) × (k ≡ length xs + i) × (get_elem? ys i ≡ some y))
  split_at [] ys k y e = inr (k, omega arith, e)
  split_at (x ∷ xs) ys zero y e = inl e
  split_at (x ∷ xs) ys (suc k) y e = ⊎_elim (λ h. inl h) (λ (h : (i : ℕ) × (k ≡ length xs + i) × (get_elem? ys i ≡ some y)). let l = h.1 in inr (h.0, omega arith, h.2)) (split_at xs ys k y e)

  first_at : (x y : X) (k : ℕ) → get_elem? (x ∷ []) k ≡ some y → k ≡ 0
  first_at x y zero e = refl
  first_at x y (suc k) e = absurd (some-ne-none y (sym e))

  never_at : (y : X) (k : ℕ) → get_elem? {A = X} [] k ≡ some y → ⊥
  never_at y zero e = some-ne-none y (sym e)
  never_at y (suc k) e = some-ne-none y (sym e)

module _ {O A R : Type 0} where
  pub none_apart : AreApart {O = O} {A = A} {R = R} []
  none_apart i j m n e f same = absurd (never_at m i e)

  pub one_apart : (x : Member O A R) → AreApart (x ∷ [])
  one_apart x i j m n e f same = first_at x m i e ∙ sym (first_at x n j f)

  pub both_apart : (xs ys : List (Member O A R)) → AreApart xs → AreApart ys → ((m n : Member O A R) → StandsIn xs m → StandsIn ys n → m.number ≡ n.number → ⊥) → AreApart (xs ++ ys)
  both_apart xs ys a b cross i j m n e f same = ⊎_elim
      (λ (p : get_elem? xs i ≡ some m). ⊎_elim (λ (q : get_elem? xs j ≡ some n). a i j m n p q same)
      (λ (q : (k : ℕ) × (j ≡ length xs + k) × (get_elem? ys k ≡ some n)). absurd (cross m n (i, p) (q.0, q.2) same)) (split_at xs ys j n f))
      (λ (p : (k : ℕ) × (i ≡ length xs + k) × (get_elem? ys k ≡ some m)). ⊎_elim (λ (q : get_elem? xs j ≡ some n). absurd (cross n m (j, q) (p.0, p.2) (sym same)))
      (λ (q : (k : ℕ) × (j ≡ length xs + k) × (get_elem? ys k ≡ some n)). p.1 ∙ ap (λ (z : ℕ). length xs + z) (b p.0 q.0 m n p.2 q.2 same) ∙ sym q.1) (split_at xs ys j n f))
      (split_at xs ys i m e)

  abbrev pub Once : List (View O A R) → Type 0
  Once views = (j : ℕ) (d : View O A R) → get_elem? views j ≡ some d → AreApart d.members

  pub once_set : (views : List (View O A R)) (id : ℕ) (w : View O A R) → AreApart w.members → Once views → Once (set views id w)
  once_set views id w fine all j d e = ⊎_elim (λ (t : (j ≡ id) × (w ≡ d)). subst (λ (z : View O A R). AreApart z.members) t.1 fine) (λ (t : (j ≢ id) × (get_elem? views j ≡ some d)). all j d t.1) (at_set views id j w d e)

  pub once_end : (views : List (View O A R)) (w : View O A R) → AreApart w.members → Once views → Once (views ++ w ∷ [])
  once_end views w fine all j d e = ⊎_elim (λ (t : get_elem? views j ≡ some d). all j d t) (λ (t : (j ≡ length views) × (w ≡ d)). subst (λ (z : View O A R). AreApart z.members) t.1 fine) (end_at views w d j e)
