-- `SameElements` is an equivalence wherever its relation is one on the elements.
use Rattle.std.proofs.Common.{◌≡◌, inl, inr, List, [], ◌∷◌, refl, subst}
use Rattle.std.specs.List.{AllByRecursion}
use Rattle.dtdl_terms.specs.Equality.{AnyByRecursion, SameElements}

module _ {A : Type 0} where
  -- ---- each element, some element
  all_with : (P Q S : A → Type 0) → ((x : A) → P x → Q x → S x) → (xs : List A) → AllByRecursion P xs → AllByRecursion Q xs → AllByRecursion S xs
  all_with P Q S f [] ps qs = tt
  all_with P Q S f (x ∷ xs) ps qs = (f x ps.0 qs.0, all_with P Q S f xs ps.1 qs.1)

  all_map : (P Q : A → Type 0) → ((x : A) → P x → Q x) → (xs : List A) → AllByRecursion P xs → AllByRecursion Q xs
  all_map P Q f [] ps = tt
  all_map P Q f (x ∷ xs) ps = (f x ps.0, all_map P Q f xs ps.1)

  any_map : (P Q : A → Type 0) → ((x : A) → P x → Q x) → (xs : List A) → AnyByRecursion P xs → AnyByRecursion Q xs
  any_map P Q f [] p = absurd p
  any_map P Q f (x ∷ xs) (inl p) = inl (f x p)
  any_map P Q f (x ∷ xs) (inr p) = inr (any_map P Q f xs p)

  any_with : (P Q S : A → Type 0) → ((x : A) → P x → Q x → S x) → (xs : List A) → AllByRecursion P xs → AnyByRecursion Q xs → AnyByRecursion S xs
  any_with P Q S f [] ps q = absurd q
  any_with P Q S f (x ∷ xs) ps (inl q) = inl (f x ps.0 q)
  any_with P Q S f (x ∷ xs) ps (inr q) = inr (any_with P Q S f xs ps.1 q)

  -- what follows from what each element has and what some element has
  any_then : (P Q : A → Type 0) (C : Type 0) → ((x : A) → P x → Q x → C) → (xs : List A) → AllByRecursion P xs → AnyByRecursion Q xs → C
  any_then P Q C f [] ps q = absurd q
  any_then P Q C f (x ∷ xs) ps (inl q) = f x ps.0 q
  any_then P Q C f (x ∷ xs) ps (inr q) = any_then P Q C f xs ps.1 q

  -- ---- itself
  each_self : (R : A → A → Type 0) (xs ys : List A) → AllByRecursion (λ x. R x x) xs
      → ((x : A) → AnyByRecursion (λ y. x ≡ y) xs → AnyByRecursion (λ y. x ≡ y) ys) → AllByRecursion (λ x. AnyByRecursion (λ y. R x y) ys) xs
  each_self R [] ys same into = tt
  each_self R (x ∷ xs) ys same into = (
    any_map (λ y. x ≡ y) (λ y. R x y) (λ y e. subst (λ (z : A). R x z) e same.0) ys (into x (inl refl)),
    each_self R xs ys same.1 (λ z among. into z (inr among)),
  )

  pub same_elements_self : (R : A → A → Type 0) (xs : List A) → AllByRecursion (λ x. R x x) xs → SameElements R xs xs
  same_elements_self R xs same = record {
    each = each_self R xs xs same (λ x among. among);
    other = each_self (λ y x. R x y) xs xs same (λ x among. among);
  }

  -- ---- both ways
  pub same_elements_back : (R : A → A → Type 0) (xs ys : List A) → AllByRecursion (λ x. (y : A) → R x y → R y x) xs → SameElements R xs ys
      → SameElements R ys xs
  same_elements_back R xs ys turn same = record {
    each = all_map (λ y. AnyByRecursion (λ x. R x y) xs) (λ y. AnyByRecursion (λ x. R y x) xs)
        (λ y some. any_with (λ x. (z : A) → R x z → R z x) (λ x. R x y) (λ x. R y x) (λ x back r. back y r) xs turn some) ys same.other;
    other = all_with (λ x. (z : A) → R x z → R z x) (λ x. AnyByRecursion (λ y. R x y) ys) (λ x. AnyByRecursion (λ y. R y x) ys)
        (λ x back some. any_map (λ y. R x y) (λ y. R y x) (λ y r. back y r) ys some) xs turn same.each;
  }

  -- ---- through a third
  pub same_elements_through : (R : A → A → Type 0) (xs ys zs : List A) → AllByRecursion (λ x. (y z : A) → R x y → R y z → R x z) xs
      → SameElements R xs ys → SameElements R ys zs → SameElements R xs zs
  same_elements_through R xs ys zs join first second = record {
    each = all_with (λ x. (y z : A) → R x y → R y z → R x z) (λ x. AnyByRecursion (λ y. R x y) ys) (λ x. AnyByRecursion (λ z. R x z) zs)
        (λ x on some. any_then (λ y. AnyByRecursion (λ z. R y z) zs) (λ y. R x y) (AnyByRecursion (λ z. R x z) zs)
        (λ y there r. any_map (λ z. R y z) (λ z. R x z) (λ z s. on y z r s) zs there) ys second.each some)
        xs join first.each;
    other = all_map (λ z. AnyByRecursion (λ y. R y z) ys) (λ z. AnyByRecursion (λ x. R x z) xs)
        (λ z some. any_then (λ y. AnyByRecursion (λ x. R x y) xs) (λ y. R y z) (AnyByRecursion (λ x. R x z) xs)
        (λ y there s. any_with (λ x. (y z : A) → R x y → R y z → R x z) (λ x. R x y) (λ x. R x z) (λ x on r. on y z r s) xs join there)
        ys first.other some)
        zs second.other;
  }

  -- what holds of all holds of each
  pub everywhere : (P : A → Type 0) → ((x : A) → P x) → (xs : List A) → AllByRecursion P xs
  everywhere P f [] = tt
  everywhere P f (x ∷ xs) = (f x, everywhere P f xs)
