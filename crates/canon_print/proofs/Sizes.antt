-- Sizes of lists where they are, in order.
use Rattle.std.proofs.Common.{◌≡◌, ℕ, zero, suc, ◌<◌, ◌≤◌, Bor, length, get_or, subst, List, [], ◌∷◌, Bool, true, false, if◌then◌else◌, max, refl, sym, ap, ◌∙◌, arith}
use denote.Param.Weighed.{most}
use Rattle.canon_text.specs.Sorting.{is_before, put_by, sorted_by}
use Rattle.canon_print.specs.Machinery.Lent.{values_now}

module _ {A : Type 0} (size : A → ℕ) (key : A → List ℕ) where
  most_if : (b : Bool) (x y : A) (zs ys : List A) → most size zs ≡ max (size x) (most size ys)
      → most size (if b then y ∷ zs else x ∷ y ∷ ys) ≡ max (size x) (max (size y) (most size ys))
  most_if true x y zs ys same = omega (arith, same)
  most_if false x y zs ys same = refl

  most_put : (x : A) (ys : List A) → most size (put_by key x ys) ≡ max (size x) (most size ys)
  most_put x [] = refl
  most_put x (y ∷ ys) = most_if (is_before (key y) (key x)) x y (put_by key x ys) ys (most_put x ys)

  -- the largest of a list is that of the list in order
  pub most_sorted : (xs : List A) → most size (sorted_by key xs) ≡ most size xs
  most_sorted [] = refl
  most_sorted (x ∷ xs) = most_put x (sorted_by key xs) ∙ ap (max (size x)) (most_sorted xs)

module _ {A : Type 0} (size : A → ℕ) where
  each_within : (xs : List (Bor A)) (n : ℕ) (x : Bor A) → n < length xs → size (get_or xs n x).now ≤ most size (values_now xs)
  each_within [] n x within = absurd (omega (arith, within))
  each_within (y ∷ ys) zero x within = omega arith
  each_within (y ∷ ys) (suc n) x within =
      let h : size (get_or ys n x).now ≤ most size (values_now ys) = each_within ys n x (omega (arith, within)) in
      omega (arith, h)

  -- no element is larger than the largest
  pub element_within : (xs : List (Bor A)) (n : ℕ) (x : Bor A) → n < length xs → x ≡ get_or xs n x → size x.now ≤ most size (values_now xs)
  element_within xs n x within same = subst (λ (y : Bor A). size y.now ≤ most size (values_now xs)) (sym same) (each_within xs n x within)
