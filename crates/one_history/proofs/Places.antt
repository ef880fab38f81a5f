-- Where the elements of a list stand.
use Rattle.std.proofs.Common.{◌≡◌, ℕ, zero, suc, ◌<◌, ◌⊎◌, List, [], ◌∷◌, ◌++◌, map, length, set, sym, refl, ap, ◌∙◌, inl, inr, ⊎_elim, arith}
use mathlib.Core.Option.{some, some-injective, some-ne-none}
use lib.ListN.{get_elem?}
use Rattle.atomic_table.proofs.Lists.{at_longer}
use Rattle.one_history.specs.Machinery.Rules.{StandsIn}

module _ {X : Type 0} where
  one_at : (x y : X) (k : ℕ) → get_elem? (x ∷ []) k ≡ some y → x ≡ y
  one_at x y zero e = some-injective x y e
  one_at x y (suc k) e = absurd (some-ne-none y (sym e))

  pub has_one : (x y : X) → StandsIn (x ∷ []) y → x ≡ y
  has_one x y h = one_at x y h.0 h.1

  none_at : (y : X) (k : ℕ) → get_elem? {A = X} [] k ≡ some y → ⊥
  none_at y zero e = some-ne-none y (sym e)
  none_at y (suc k) e = some-ne-none y (sym e)

  pub has_none : (y : X) → StandsIn {X = X} [] y → ⊥
  has_none y h = none_at y h.0 h.1

  append_at : (xs ys : List X) (y : X) (k : ℕ) → get_elem? (xs ++ ys) k ≡ some y → StandsIn xs y ⊎ StandsIn ys y
  append_at [] ys y k e = inr (k, e)
  append_at (x ∷ xs) ys y zero e = inl (0, e)
  append_at (x ∷ xs) ys y (suc k) e = ⊎_elim (λ (h : StandsIn xs y). inl (suc h.0, h.1)) (λ (h : StandsIn ys y). inr h) (append_at xs ys y k e)

  pub has_append : (xs ys : List X) (y : X) → StandsIn (xs ++ ys) y → StandsIn xs y ⊎ StandsIn ys y
  has_append xs ys y h = append_at xs ys y h.0 h.1

  pub has_left : (xs ys : List X) (y : X) → StandsIn xs y → StandsIn (xs ++ ys) y
  has_left xs ys y h = (h.0, at_longer xs ys h.0 y h.1)

  pub has_right : (xs ys : List X) (y : X) → StandsIn ys y → StandsIn (xs ++ ys) y
  has_right [] ys y h = h
  has_right (x ∷ xs) ys y h = let r = has_right xs ys y h in (suc r.0, r.1)

  -- the element that a set writes
  pub put_at : (l : List X) (i : ℕ) (a b : X) → get_elem? l i ≡ some a → get_elem? (set l i b) i ≡ some b
  put_at [] i a b e = absurd (some-ne-none a (sym e))
  put_at (x ∷ xs) zero a b e = refl
  put_at (x ∷ xs) (suc i) a b e = put_at xs i a b e

  pub end_at : (l : List X) (a b : X) (j : ℕ) → get_elem? (l ++ a ∷ []) j ≡ some b → (get_elem? l j ≡ some b) ⊎ ((j ≡ length l) × (a ≡ b))
  end_at [] a b zero e = inr (refl, some-injective a b e)
  end_at [] a b (suc j) e = absurd (some-ne-none b (sym e))
  end_at (x ∷ xs) a b zero e = inl e
  end_at (x ∷ xs) a b (suc j) e = ⊎_elim (λ h. inl h) (λ h. inr (ap suc h.0, h.1)) (end_at xs a b j e)

  pub at_below : (l : List X) (b : X) (j : ℕ) → get_elem? l j ≡ some b → j < length l
  at_below [] b j e = absurd (some-ne-none b (sym e))
  at_below (x ∷ xs) b zero e = omega arith
  at_below (x ∷ xs) b (suc j) e = let h = at_below xs b j e in omega arith

  pub at_once : (l : List X) (a b : X) (j : ℕ) → get_elem? l j ≡ some a → get_elem? l j ≡ some b → a ≡ b
  at_once l a b j e f = some-injective a b (sym e ∙ f)

  map_at : {Y : Type 0} (f : X → Y) (xs : List X) (y : Y) (k : ℕ) → get_elem? (map f xs) k ≡ some y → (x : X) × StandsIn xs x × (f x ≡ y)
  map_at f [] y k e = absurd (some-ne-none y (sym e))
  map_at f (x ∷ xs) y zero e = (x, (0, refl), some-injective (f x) y e)
  map_at f (x ∷ xs) y (suc k) e = let r = map_at f xs y k e in (r.0, (suc (r.1).0, (r.1).1), r.2)

  pub has_map : {Y : Type 0} (f : X → Y) (xs : List X) (y : Y) → StandsIn (map f xs) y → (x : X) × StandsIn xs x × (f x ≡ y)
  has_map f xs y h = map_at f xs y h.0 h.1
