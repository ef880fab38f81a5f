-- Some of a list, by what is found in it and by a list beside it.
use Rattle.std.proofs.Common.{◌≡◌, ℕ, zero, suc, ◌<◌, ◌⊎◌, inl, inr, List, [], ◌∷◌, length, map, slice_index_or, Bool, true, false, cond, find, filter_map, Option, Some, None, refl, sym, ap, subst, ◌∙◌, arith}
use Rattle.std.specs.Prelude.{Contains}
use Rattle.std.specs.List.{AllByRecursion, AllZip, cons_option}
use Rattle.dtdl_terms.specs.Equality.{AnyByRecursion}
use Rattle.dtdl_terms.specs.Distinct.{AreDistinct}

module _ {A : Type 0} where
  pub find_passes : (test : A → Bool) (xs : List A) (w : A) → find test xs ≡ Some w → AnyByRecursion (λ x. (x ≡ w) × (test x ≡ true)) xs
  find_passes test [] w found = absurd cc
  find_passes test (x ∷ xs) w found = elim (test x) as (λ b. test x ≡ b → cond b (Some x) (find test xs) ≡ Some w → AnyByRecursion (λ y. (y ≡ w) × (test y ≡ true)) (x ∷ xs)) [
    | true ↦ λ on first. (let same : x ≡ w = cc in inl (same, on))
    | false ↦ λ off rest. inr (find_passes test xs w rest)
  ] refl found

  pub find_some : (test : A → Bool) (xs : List A) → AnyByRecursion (λ x. test x ≡ true) xs → find test xs ≡ None → ⊥
  find_some test [] any none = any
  find_some test (x ∷ xs) any none = elim (test x) as (λ b. test x ≡ b → cond b (Some x) (find test xs) ≡ None → ⊥) [
    | true ↦ λ on first. cc
    | false ↦ λ off rest. elim any [ inl on ↦ (let e : true ≡ false = sym on ∙ off in cc) | inr later ↦ find_some test xs later rest ]
  ] refl none

  pub any_is : (P : A → Type 0) (xs : List A) → AnyByRecursion P xs → (x : A) × AnyByRecursion (λ y. y ≡ x) xs × P x
  any_is P [] any = absurd any
  any_is P (x ∷ xs) (inl h) = (x, inl refl, h)
  any_is P (x ∷ xs) (inr later) = (let (y, among, h) = any_is P xs later in (y, inr among, h))

  -- ---- positions
  at_position : (xs : List A) (n : ℕ) (x d : A) → n < length xs → slice_index_or xs n d ≡ x → AnyByRecursion (λ y. y ≡ x) xs
  at_position [] n x d less at = absurd (omega arith)
  at_position (y ∷ ys) zero x d less at = inl at
  at_position (y ∷ ys) (suc n) x d less at = inr (at_position ys n x d (omega arith) at)

  pub any_of_contains : (xs : List A) (x : A) → Contains xs x → AnyByRecursion (λ y. y ≡ x) xs
  any_of_contains xs x (n, less, at) = at_position xs n x x less at

  pub contains_of_any : (P : A → Type 0) (xs : List A) → AnyByRecursion P xs → (x : A) × Contains xs x × P x
  contains_of_any P [] any = absurd any
  contains_of_any P (x ∷ xs) (inl h) = (x, (0, omega arith, refl), h)
  contains_of_any P (x ∷ xs) (inr later) = (let (y, (n, less, at), h) = contains_of_any P xs later in (y, (suc n, omega arith, at), h))

-- ---- lists side by side
module _ {A B : Type 0} (P : A → B → Type 0) where
  pub zip_any : (Q : A → Type 0) (xs : List A) (ys : List B) → AllZip P xs ys → AnyByRecursion Q xs → AnyByRecursion (λ y. (x : A) × P x y × Q x) ys
  zip_any Q [] ys all any = absurd any
  zip_any Q (x ∷ xs) [] all any = absurd all
  zip_any Q (x ∷ xs) (y ∷ ys) all (inl h) = inl (x, all.0, h)
  zip_any Q (x ∷ xs) (y ∷ ys) all (inr later) = inr (zip_any Q xs ys all.1 later)

  pub any_zip : (Q : B → Type 0) (xs : List A) (ys : List B) → AllZip P xs ys → AnyByRecursion Q ys → AnyByRecursion (λ x. (y : B) × P x y × Q y) xs
  any_zip Q [] [] all any = absurd any
  any_zip Q [] (y ∷ ys) all any = absurd all
  any_zip Q (x ∷ xs) [] all any = absurd all
  any_zip Q (x ∷ xs) (y ∷ ys) all (inl h) = inl (y, all.0, h)
  any_zip Q (x ∷ xs) (y ∷ ys) all (inr later) = inr (any_zip Q xs ys all.1 later)

-- ---- what answers
module _ {A B : Type 0} (f : A → Option B) where
  cons_some : (o : Option B) (ys : List B) (y : B) → AnyByRecursion (λ z. z ≡ y) (cons_option o ys) → (o ≡ Some y) ⊎ AnyByRecursion (λ z. z ≡ y) ys
  cons_some None ys y any = inr any
  cons_some (Some z) ys y (inl is) = inl (ap (λ (b : B). Some b) is)
  cons_some (Some z) ys y (inr later) = inr later

  pub answer_of : (xs : List A) (y : B) → AnyByRecursion (λ z. z ≡ y) (filter_map f xs) → AnyByRecursion (λ x. f x ≡ Some y) xs
  answer_of [] y any = absurd any
  answer_of (x ∷ xs) y any = elim (cons_some (f x) (filter_map f xs) y any) [ inl is ↦ inl is | inr later ↦ inr (answer_of xs y later) ]

  some_cons : (Q : B → Type 0) (o : Option B) (ys : List B) (y : B) → o ≡ Some y → Q y → AnyByRecursion Q (cons_option o ys)
  some_cons Q None ys y is h = absurd cc
  some_cons Q (Some z) ys y is h = let same : y ≡ z = cc in inl (subst Q same h)

  later_cons : (Q : B → Type 0) (o : Option B) (ys : List B) → AnyByRecursion Q ys → AnyByRecursion Q (cons_option o ys)
  later_cons Q None ys any = any
  later_cons Q (Some z) ys any = inr any

  pub has_answer : (Q : B → Type 0) (xs : List A) → AnyByRecursion (λ x. (y : B) × (f x ≡ Some y) × Q y) xs → AnyByRecursion Q (filter_map f xs)
  has_answer Q [] any = absurd any
  has_answer Q (x ∷ xs) (inl h) = some_cons Q (f x) (filter_map f xs) h.0 h.1 h.2
  has_answer Q (x ∷ xs) (inr later) = later_cons Q (f x) (filter_map f xs) (has_answer Q xs later)

-- ---- elements that are known by something of theirs
module _ {A B : Type 0} (f : A → B) where
  known_apart : (x : A) (xs : List A) (y : A) → AllByRecursion (λ b. f x ≡ b → ⊥) (map f xs) → AnyByRecursion (λ z. z ≡ y) xs → f x ≡ f y → ⊥
  known_apart x [] y all any same = any
  known_apart x (z ∷ zs) y all (inl is) same = all.0 (same ∙ ap f (sym is))
  known_apart x (z ∷ zs) y all (inr later) same = known_apart x zs y all.1 later same

  pub one_known : (xs : List A) (x y : A) → AreDistinct (map f xs) → AnyByRecursion (λ z. z ≡ x) xs → AnyByRecursion (λ z. z ≡ y) xs → f x ≡ f y → x ≡ y
  one_known [] x y apart first second same = absurd first
  one_known (z ∷ zs) x y apart (inl is) (inl and) same = sym is ∙ and
  one_known (z ∷ zs) x y apart (inl is) (inr later) same = absurd (known_apart z zs y apart.0 later (ap f is ∙ same))
  one_known (z ∷ zs) x y apart (inr later) (inl is) same = absurd (known_apart z zs x apart.0 later (ap f is ∙ sym same))
  one_known (z ∷ zs) x y apart (inr later) (inr also) same = one_known zs x y apart.1 later also same
