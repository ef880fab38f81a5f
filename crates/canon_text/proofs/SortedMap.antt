-- Sorting beside mapping.
use Rattle.std.proofs.Common.{◌≡◌, ℕ, List, [], ◌∷◌, Bool, true, false, if◌then◌else◌, map, refl, ap, ◌∙◌}
use Rattle.canon_text.specs.Sorting.{is_before, put_by, sorted_by}

module _ {A B : Type 0} (f : A → B) (key : B → List ℕ) where
  put_if : (b : Bool) (x y : A) (zs ys : List A) → map f (if b then y ∷ zs else x ∷ y ∷ ys) ≡ (if b then f y ∷ map f zs else f x ∷ f y ∷ map f ys)
  put_if true x y zs ys = refl
  put_if false x y zs ys = refl

  map_put_by : (x : A) (ys : List A) → map f (put_by (λ y. key (f y)) x ys) ≡ put_by key (f x) (map f ys)
  map_put_by x [] = refl
  map_put_by x (y ∷ ys) =
      let b = is_before (key (f y)) (key (f x)) in
      put_if b x y (put_by (λ z. key (f z)) x ys) ys ∙ ap (λ (zs : List B). if b then f y ∷ zs else f x ∷ f y ∷ map f ys) (map_put_by x ys)

  -- the values of sorted elements are the sorted values
  pub map_sorted_by : (xs : List A) → map f (sorted_by (λ x. key (f x)) xs) ≡ sorted_by key (map f xs)
  map_sorted_by [] = refl
  map_sorted_by (x ∷ xs) = map_put_by x (sorted_by (λ y. key (f y)) xs) ∙ ap (put_by key (f x)) (map_sorted_by xs)
