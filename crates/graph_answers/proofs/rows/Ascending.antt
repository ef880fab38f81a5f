-- Lists in the order of their keys, joined end to end; and keys that begin with others.
use Rattle.std.proofs.Common.{◌≡◌, ℕ, List, [], ◌∷◌, ◌++◌, map, length, refl, ap, ◌∙◌, Ordering, Less, Equal, Greater, arith}
use Rattle.std.specs.Ordering.{ordering_then}
use Rattle.std.specs.Cmp.Lexicographic.{slice_cmp}
use Rattle.std.specs.List.{AllByRecursion, flat_map}
use Rattle.std.specs.List.Sorted.{IsStrictlySortedBy}
use Rattle.std.proofs.lemmas.Cmp.{tied_itself}
use Rattle.query_eval.proofs.Lists.{all_both, all_joined, all_mapped, each}
use Rattle.query_eval.proofs.Ordered.{C, c_total, sorted_cons, sorted_first, sorted_rest}

module _ {T K : Type 0} (R : K → K → Ordering) (key : T → K) where
  abbrev pub IsBefore : T → T → Type 0
  IsBefore x y = R (key x) (key y) ≡ Less

  abbrev pub Ascends : List T → Type 0
  Ascends xs = IsStrictlySortedBy R (map key xs)

  pub ascends_none : Ascends []
  unfolding IsStrictlySortedBy
  ascends_none = tt

  pub ascends_one : (x : T) → Ascends (x ∷ [])
  ascends_one x = sorted_cons R key x [] tt ascends_none

  -- each of those is before each of these
  abbrev pub AreBefore : List T → List T → Type 0
  AreBefore xs ys = AllByRecursion (λ x. AllByRecursion (IsBefore x) ys) xs

  pub ascends_joined : (xs ys : List T) → Ascends xs → Ascends ys → AreBefore xs ys → Ascends (xs ++ ys)
  ascends_joined [] ys a b c = b
  ascends_joined (x ∷ xs) ys a b c =
      sorted_cons R key x (xs ++ ys)
      (all_joined (IsBefore x) xs ys (sorted_first R key x xs a) c.0)
      (ascends_joined xs ys (sorted_rest R key x xs a) b c.1)

  -- lists of which each is before those that come from later ones
  module _ {X J : Type 0} (Q : J → J → Ordering) (of : X → J) (P : X → Type 0) (f : X → List T)
      (apart : (x y : X) → P x → P y → Q (of x) (of y) ≡ Less → AreBefore (f x) (f y)) where
    before_rest : (x : X) (ys : List X) → P x → AllByRecursion P ys → AllByRecursion (λ y. Q (of x) (of y) ≡ Less) ys → AreBefore (f x) (flat_map f ys)
    before_rest x [] p ps less = each (λ t. AllByRecursion (IsBefore t) []) (λ t. tt) (f x)
    before_rest x (y ∷ ys) p ps less =
        all_both (λ t. AllByRecursion (IsBefore t) (f y)) (λ t. AllByRecursion (IsBefore t) (flat_map f ys)) (λ t. AllByRecursion (IsBefore t) (f y ++ flat_map f ys))
        (λ t a b. all_joined (IsBefore t) (f y) (flat_map f ys) a b) (f x)
        (apart x y p ps.0 less.0) (before_rest x ys p ps.1 less.1)

    pub ascends_flat : (xs : List X) → AllByRecursion P xs → IsStrictlySortedBy Q (map of xs) → AllByRecursion (λ x. Ascends (f x)) xs → Ascends (flat_map f xs)
    ascends_flat [] ps s all = ascends_none
    ascends_flat (x ∷ xs) ps s all =
        ascends_joined (f x) (flat_map f xs) all.0
        (ascends_flat xs ps.1 (sorted_rest Q of x xs s) all.1)
        (before_rest x xs ps.0 ps.1 (sorted_first Q of x xs s))

  -- what is made of a list in order, each before what is made of later ones
  module _ {X J : Type 0} (Q : J → J → Ordering) (of : X → J) (P : X → Type 0) (f : X → T)
      (before : (x y : X) → P x → P y → Q (of x) (of y) ≡ Less → IsBefore (f x) (f y)) where
    pub ascends_mapped : (xs : List X) → AllByRecursion P xs → IsStrictlySortedBy Q (map of xs) → Ascends (map f xs)
    ascends_mapped [] ps s = ascends_none
    ascends_mapped (x ∷ xs) ps s =
        sorted_cons R key (f x) (map f xs)
        (all_mapped (IsBefore (f x)) f xs (all_both P (λ y. Q (of x) (of y) ≡ Less) (λ y. IsBefore (f x) (f y)) (λ y p less. before x y ps.0 p less) xs ps.1 (sorted_first Q of x xs s)))
        (ascends_mapped xs ps.1 (sorted_rest Q of x xs s))

-- ---- keys
abbrev pub Key : Type 0
Key = List (List ℕ)

abbrev pub key_order : Key → Key → Ordering
key_order = slice_cmp C

-- behind one beginning
pub begun : (k a b : Key) → key_order (k ++ a) (k ++ b) ≡ key_order a b
begun [] a b = refl
begun (x ∷ k) a b = ap (λ o. ordering_then o (key_order (k ++ a) (k ++ b))) (tied_itself c_total x) ∙ begun k a b

-- Two keys of one length decide, whatever follows.
pub decided : (k m a b : Key) → length k ≡ length m → key_order k m ≡ Less → key_order (k ++ a) (m ++ b) ≡ Less
decided [] [] a b same less = absurd cc
decided [] (y ∷ m) a b same less = absurd (omega (arith, same))
decided (x ∷ k) [] a b same less = absurd (omega (arith, same))
decided (x ∷ k) (y ∷ m) a b same less =
    elim (C x y) as (λ o. ordering_then o (key_order k m) ≡ Less → ordering_then o (key_order (k ++ a) (m ++ b)) ≡ Less) [
      | Less ↦ λ h. refl
      | Equal ↦ λ h. decided k m a b (omega (arith, same)) h
      | Greater ↦ λ h. absurd cc
    ] less
