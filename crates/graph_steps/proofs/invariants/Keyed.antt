-- Things that stand in the order of their keys, where one comes, takes the place of another, or goes.
use Rattle.std.proofs.Common.{◌≡◌, ℕ, ◌+◌, ◌≤◌, List, [], ◌∷◌, map, Bool, true, false, cond, Some, None, refl, sym, ap, ◌∙◌, subst, Ordering, Less, Equal, Greater, is_eq, true≢false, arith}
use Rattle.std.specs.Ordering.{match_ordering}
use Rattle.std.specs.Cmp.{IsTotalOrder}
use Rattle.std.specs.List.{AllByRecursion, sum_by}
use Rattle.std.specs.List.Sorted.{IsStrictlySortedBy}
use Rattle.std.specs.Map.{lookup, remove_entry, keys_of, values_of}
use Rattle.std.specs.BTreeMap.{is_at, insert_entry}
use Rattle.std.proofs.lemmas.Map.Lookups.{CmpEqualImpliesEq}
use Rattle.std.proofs.lemmas.Map.Entries.{sum_by-insert_entry, sum_by-remove_entry}
use Rattle.std.proofs.lemmas.Slice.Eq.{bytes_eq-Decides}
use Rattle.std.proofs.lemmas.Cmp.{tied_itself}
use Rattle.std.specs.Prelude.{bytes_eq}
use Rattle.ordered_table.proofs.Flat.{C, c_total}
use Rattle.ordered_table.proofs.Ordered.{lookup-insert, unlike}
use Rattle.ordered_table.proofs.Kept.{sorted-insert, sorted-remove, lookup-removed}
use Rattle.std.proofs.lemmas.Map.Lookups.{exact_bytes}

-- ---- texts
pub one_text : (a b : List ℕ) → is_eq (C a b) ≡ true → a ≡ b
one_text a b e = exact_bytes a b (unlike (C a b) e)

pub itself : (a : List ℕ) → is_eq (C a a) ≡ true
itself a = ap is_eq (tied_itself c_total a)

-- The two tests of texts say the same.
pub tests : (a b : List ℕ) → is_eq (C a b) ≡ bytes_eq b a
tests a b =
    elim (is_eq (C a b)) as (λ t. is_eq (C a b) ≡ t → t ≡ bytes_eq b a) [
      | true ↦ λ e. sym ((bytes_eq-Decides b a).1 (sym (one_text a b e)))
      | false ↦ λ e.
          elim (bytes_eq b a) as (λ u. bytes_eq b a ≡ u → false ≡ u) [
            | true ↦ λ h.
                let same : b ≡ a = (bytes_eq-Decides b a).0 h in
                absurd (true≢false (sym (ap (λ (x : List ℕ). is_eq (C a x)) same ∙ itself a) ∙ e))
            | false ↦ λ _. refl
          ] refl
    ] refl

-- ---- entries
module _ {K X : Type 0} (key : X → K) where
  abbrev pub entries : List X → List (K × X)
  entries xs = map (λ x. (key x, x)) xs

  abbrev without_one : (K → Bool) → List X → List X
  without_one test xs = values_of (remove_entry test (entries xs))

  pub values-entries : (xs : List X) → values_of (entries xs) ≡ xs
  values-entries [] = refl
  values-entries (x ∷ xs) = ap (λ ys. x ∷ ys) (values-entries xs)

  pub keys-entries : (xs : List X) → keys_of (entries xs) ≡ map key xs
  keys-entries [] = refl
  keys-entries (x ∷ xs) = ap (λ ks. key x ∷ ks) (keys-entries xs)

  pub all-without : (P : X → Type 0) (test : K → Bool) (xs : List X) → AllByRecursion P xs → AllByRecursion P (values_of (remove_entry test (entries xs)))
  all-without P test [] all = tt
  all-without P test (y ∷ ys) all =
      elim (test (key y)) as (λ b. AllByRecursion P (values_of (cond b (entries ys) ((key y, y) ∷ remove_entry test (entries ys))))) [
        | true ↦ subst (AllByRecursion P) (sym (values-entries ys)) all.1
        | false ↦ (all.0, all-without P test ys all.1)
      ]

  entries-without : (test : K → Bool) (xs : List X) → entries (without_one test xs) ≡ remove_entry test (entries xs)
  entries-without test [] = refl
  entries-without test (y ∷ ys) =
      elim (test (key y)) as (λ b. entries (values_of (cond b (entries ys) ((key y, y) ∷ remove_entry test (entries ys)))) ≡ cond b (entries ys) ((key y, y) ∷ remove_entry test (entries ys))) [
        | true ↦ ap entries (values-entries ys)
        | false ↦ ap (λ es. (key y, y) ∷ es) (entries-without test ys)
      ]

  pub sum-without : (f : X → ℕ) (test : K → Bool) (xs : List X) → sum_by f (values_of (remove_entry test (entries xs))) ≤ sum_by f xs
  sum-without f test xs =
      let gone = sum_by-remove_entry f test (entries xs) in
      let same : sum_by f (values_of (entries xs)) ≡ sum_by f xs = ap (sum_by f) (values-entries xs) in
      omega (arith, gone, same)

  module _ (R : K → K → Ordering) where
    -- with x at its place, or in the place of the one with its key
    abbrev with_one : X → List X → List X
    with_one x xs = values_of (insert_entry R (entries xs) (key x) x)

    pub all-with : (P : X → Type 0) (x : X) (xs : List X) → P x → AllByRecursion P xs → AllByRecursion P (values_of (insert_entry R (entries xs) (key x) x))
    all-with P x [] new all = (new, tt)
    all-with P x (y ∷ ys) new all =
        elim (R (key x) (key y)) as (λ o. AllByRecursion P (values_of (match_ordering o ((key x, x) ∷ (key y, y) ∷ entries ys) ((key y, x) ∷ entries ys) ((key y, y) ∷ insert_entry R (entries ys) (key x) x)))) [
          | Less ↦ (new, (all.0, subst (AllByRecursion P) (sym (values-entries ys)) all.1))
          | Equal ↦ (new, subst (AllByRecursion P) (sym (values-entries ys)) all.1)
          | Greater ↦ (all.0, all-with P x ys new all.1)
        ]

    -- each still stands under its key
    entries-with : CmpEqualImpliesEq R → (x : X) (xs : List X) → entries (with_one x xs) ≡ insert_entry R (entries xs) (key x) x
    entries-with exact x [] = refl
    entries-with exact x (y ∷ ys) =
        elim (R (key x) (key y)) as (λ o. R (key x) (key y) ≡ o → entries (values_of (match_ordering o ((key x, x) ∷ (key y, y) ∷ entries ys) ((key y, x) ∷ entries ys) ((key y, y) ∷ insert_entry R (entries ys) (key x) x)))
        ≡ match_ordering o ((key x, x) ∷ (key y, y) ∷ entries ys) ((key y, x) ∷ entries ys) ((key y, y) ∷ insert_entry R (entries ys) (key x) x)) [
          | Less ↦ λ e. ap (λ zs. (key x, x) ∷ (key y, y) ∷ entries zs) (values-entries ys)
          | Equal ↦ λ e. ap (λ zs. (key x, x) ∷ entries zs) (values-entries ys) ∙ ap (λ k. (k, x) ∷ entries ys) (exact (key x) (key y) e)
          | Greater ↦ λ e. ap (λ es. (key y, y) ∷ es) (entries-with exact x ys)
        ] refl

    pub sorted-keys : (xs : List X) → IsStrictlySortedBy R (map key xs) → IsStrictlySortedBy R (keys_of (entries xs))
    sorted-keys xs s = subst (IsStrictlySortedBy R) (sym (keys-entries xs)) s

    module _ (o : IsTotalOrder R) where
      pub sorted-with : CmpEqualImpliesEq R → (x : X) (xs : List X) → IsStrictlySortedBy R (map key xs) → IsStrictlySortedBy R (map key (values_of (insert_entry R (entries xs) (key x) x)))
      sorted-with exact x xs s =
          subst (IsStrictlySortedBy R) (keys-entries (with_one x xs))
          (subst (λ (es : List (K × X)). IsStrictlySortedBy R (keys_of es)) (sym (entries-with exact x xs)) (sorted-insert o (key x) x (entries xs) (sorted-keys xs s)))

      pub sorted-without : (test : K → Bool) (xs : List X) → IsStrictlySortedBy R (map key xs) → IsStrictlySortedBy R (map key (values_of (remove_entry test (entries xs))))
      sorted-without test xs s =
          subst (IsStrictlySortedBy R) (keys-entries (without_one test xs))
          (subst (λ (es : List (K × X)). IsStrictlySortedBy R (keys_of es)) (sym (entries-without test xs)) (sorted-remove o test (entries xs) (sorted-keys xs s)))

      -- ---- look-ups
      pub at-with : CmpEqualImpliesEq R → (x : X) (xs : List X) (q : K) → lookup (is_at (R q)) (entries (values_of (insert_entry R (entries xs) (key x) x))) ≡ cond (is_eq (R q (key x))) (Some x) (lookup (is_at (R q)) (entries xs))
      at-with exact x xs q = ap (lookup (is_at (R q))) (entries-with exact x xs) ∙ lookup-insert o q (key x) x (entries xs)

      pub at-without : (k : K) (xs : List X) → IsStrictlySortedBy R (map key xs) → (q : K)
          → lookup (is_at (R q)) (entries (values_of (remove_entry (is_at (R k)) (entries xs)))) ≡ cond (is_eq (R q k)) None (lookup (is_at (R q)) (entries xs))
      at-without k xs s q = ap (lookup (is_at (R q))) (entries-without (is_at (R k)) xs) ∙ lookup-removed o q k (entries xs) (sorted-keys xs s)

      -- ---- sums
      -- with one, as without the one in its place, and one more
      pub sum-with : (f : X → ℕ) (x : X) (xs : List X) → IsStrictlySortedBy R (map key xs)
          → sum_by f (values_of (insert_entry R (entries xs) (key x) x)) ≡ sum_by f (values_of (remove_entry (is_at (R (key x))) (entries xs))) + f x
      sum-with f x xs s =
          let put = sum_by-insert_entry f o (entries xs) (key x) x (sorted-keys xs s) in
          let gone = sum_by-remove_entry f (is_at (R (key x))) (entries xs) in
          omega (arith, put, gone)
