-- What stands in a list, and in the lists that are made of it.
use Rattle.std.proofs.Common.{◌≡◌, ℕ, List, [], ◌∷◌, ◌++◌, map, Bool, true, false, cond, Option, Some, sym, ap, ◌∙◌, subst, Less, is_eq}
use Rattle.std.specs.Prelude.{bytes_eq, Contains}
use Rattle.std.specs.List.{AllByRecursion, filter, find, flat_map}
use Rattle.std.proofs.lemmas.List.Elements.{All-contains, All-contains_itself, All-from_recursion, recursion_from_All, Contains-append_left, Contains-append_right, Contains-push}
use Rattle.std.proofs.lemmas.Map.Text.{is_eq-slice_cmp}
use Rattle.query_eval.proofs.Lists.{all_both, all_weaker}
use Rattle.query_eval.proofs.Ordered.{C, IsInOrder, all_found, same_bytes, sorted_first, sorted_rest}

module _ {X : Type 0} where
  pub each_stands : (xs : List X) → AllByRecursion (Contains xs) xs
  each_stands xs = recursion_from_All (Contains xs) xs (All-contains_itself xs)

  -- what holds of each holds of one that stands there
  pub of_standing : (P : X → Type 0) (xs : List X) (x : X) → AllByRecursion P xs → Contains xs x → P x
  of_standing P xs x all at = All-contains P xs x (All-from_recursion P xs all) at

  stands_first : (x : X) (xs : List X) → Contains (x ∷ xs) x
  stands_first x xs = Contains-append_left (x ∷ []) xs x (Contains-push [] x)

  stands_later : (y x : X) (xs : List X) → Contains xs x → Contains (y ∷ xs) x
  stands_later y x xs at = Contains-append_right (y ∷ []) xs x at

  -- ---- a filter
  all_filters : (p : X → Bool) (xs : List X) → AllByRecursion (λ x. p x ≡ true → Contains (filter p xs) x) xs
  all_filters p [] = tt
  all_filters p (x ∷ xs) = (
    λ h. subst (λ b. Contains (cond b (x ∷ filter p xs) (filter p xs)) x) (sym h) (stands_first x (filter p xs)),
    all_weaker (λ y. p y ≡ true → Contains (filter p xs) y) (λ y. p y ≡ true → Contains (cond (p x) (x ∷ filter p xs) (filter p xs)) y)
        (λ y f h. elim (p x) as (λ b. Contains (cond b (x ∷ filter p xs) (filter p xs)) y) [
          | true ↦ stands_later x y (filter p xs) (f h)
          | false ↦ f h
        ]) xs (all_filters p xs),
  )

  pub stands_filtered : (p : X → Bool) (xs : List X) (x : X) → Contains xs x → p x ≡ true → Contains (filter p xs) x
  stands_filtered p xs x at h = of_standing (λ y. p y ≡ true → Contains (filter p xs) y) xs x (all_filters p xs) at h

  pub stands_alone : (x : X) → Contains (x ∷ []) x
  stands_alone x = stands_first x []

-- ---- a map, and lists joined end to end
module _ {X Y : Type 0} where
  all_maps : (f : X → Y) (xs : List X) → AllByRecursion (λ x. Contains (map f xs) (f x)) xs
  all_maps f [] = tt
  all_maps f (x ∷ xs) = (
    stands_first (f x) (map f xs),
    all_weaker (λ y. Contains (map f xs) (f y)) (λ y. Contains (f x ∷ map f xs) (f y)) (λ y at. stands_later (f x) (f y) (map f xs) at) xs (all_maps f xs),
  )

  pub stands_mapped : (f : X → Y) (xs : List X) (x : X) → Contains xs x → Contains (map f xs) (f x)
  stands_mapped f xs x at = of_standing (λ y. Contains (map f xs) (f y)) xs x (all_maps f xs) at

  all_flats : (f : X → List Y) (y : Y) (xs : List X) → AllByRecursion (λ x. Contains (f x) y → Contains (flat_map f xs) y) xs
  all_flats f y [] = tt
  all_flats f y (x ∷ xs) = (
    λ at. Contains-append_left (f x) (flat_map f xs) y at,
    all_weaker (λ z. Contains (f z) y → Contains (flat_map f xs) y) (λ z. Contains (f z) y → Contains (f x ++ flat_map f xs) y)
        (λ z g at. Contains-append_right (f x) (flat_map f xs) y (g at)) xs (all_flats f y xs),
  )

  pub stands_flat : (f : X → List Y) (y : Y) (xs : List X) (x : X) → Contains xs x → Contains (f x) y → Contains (flat_map f xs) y
  stands_flat f y xs x at in' = of_standing (λ z. Contains (f z) y → Contains (flat_map f xs) y) xs x (all_flats f y xs) at in'

-- ---- what is found by its id
module _ {T : Type 0} (id : T → List ℕ) where
  abbrev at_id : List ℕ → List T → Option T
  at_id a ts = find (λ t. bytes_eq (id t) a) ts

  pub found_stands : (a : List ℕ) (t : T) (ts : List T) → at_id a ts ≡ Some t → Contains ts t
  found_stands a t ts h = all_found id (Contains ts) a t ts h (each_stands ts)

  other_id : (t u : T) → C (id t) (id u) ≡ Less → bytes_eq (id t) (id u) ≡ false
  other_id t u less = sym (is_eq-slice_cmp (id t) (id u)) ∙ ap is_eq less

  each_found : (ts : List T) → IsInOrder id ts → AllByRecursion (λ t. at_id (id t) ts ≡ Some t) ts
  each_found [] s = tt
  each_found (t ∷ ts) s = (
    ap (λ b. cond b (Some t) (at_id (id t) ts)) (same_bytes (id t)),
    all_both (λ u. C (id t) (id u) ≡ Less) (λ u. at_id (id u) ts ≡ Some u) (λ u. at_id (id u) (t ∷ ts) ≡ Some u)
        (λ u less h. ap (λ b. cond b (Some t) (at_id (id u) ts)) (other_id t u less) ∙ h)
        ts (sorted_first C id t ts s) (each_found ts (sorted_rest C id t ts s)),
  )

  -- By its id one that stands there is found.
  pub standing_found : (ts : List T) (t : T) → IsInOrder id ts → Contains ts t → at_id (id t) ts ≡ Some t
  standing_found ts t s at = of_standing (λ u. at_id (id u) ts ≡ Some u) ts t (each_found ts s) at
