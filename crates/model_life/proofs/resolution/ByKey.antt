-- Items under keys that are told apart by their spelling: in lists, and in maps that keep them in order.
use Rattle.std.proofs.Common.{◌≡◌, ℕ, zero, suc, ◌<◌, List, [], ◌∷◌, map, Bool, true, false, cond, length, slice_index_or, Option, Some, refl, sym, ap, ◌∙◌, subst, true≢false, Ordering, Less, Equal, Greater, is_eq, arith}
use Rattle.std.specs.Prelude.{Contains}
use Rattle.std.specs.Option.{is_some}
use Rattle.std.specs.Ordering.{nat_cmp, match_ordering, ordering_reverse, is_lt}
use Rattle.std.specs.Cmp.Lexicographic.{slice_cmp}
use Rattle.std.specs.List.{AllByRecursion}
use Rattle.std.specs.List.Sorted.{IsStrictlySortedBy}
use Rattle.std.specs.Map.{lookup, keys_of}
use Rattle.std.specs.BTreeMap.{insert_entry}
use Rattle.std.proofs.lemmas.Cmp.{nat_list_cmp_total}
use Rattle.std.proofs.lemmas.Option.{same_Some, none-some}
use Rattle.std.proofs.lemmas.Map.Lookups.{exact_bytes}

abbrev pub C : List ℕ → List ℕ → Ordering
C = slice_cmp nat_cmp

equal_order : (o : Ordering) → is_eq o ≡ true → o ≡ Equal
equal_order Less h = absurd (true≢false (sym h))
equal_order Equal h = refl
equal_order Greater h = absurd (true≢false (sym h))

pub same_spelling : (a b : List ℕ) → is_eq (C a b) ≡ true → a ≡ b
same_spelling a b h = exact_bytes a b (equal_order (C a b) h)

tied : (o : Ordering) → o ≡ ordering_reverse o → o ≡ Equal
tied Less h = absurd (true≢false (ap is_lt h))
tied Equal h = refl
tied Greater h = absurd (true≢false (sym (ap is_lt h)))

pub alike : (a : List ℕ) → C a a ≡ Equal
alike a = tied (C a a) (nat_list_cmp_total.antisymm a a)

pub apart : (a b : List ℕ) → C a b ≡ Less → is_eq (C b a) ≡ false
apart a b h = ap is_eq (nat_list_cmp_total.antisymm b a ∙ ap ordering_reverse h)

-- ---- elements of mapped lists
all_of_contained_at : {X Y : Type 0} (P : Y → Type 0) (f : X → Y) (xs : List X) (x : X) → AllByRecursion P (map f xs) → (k : ℕ) → k < length xs → slice_index_or xs k x ≡ x → P (f x)
all_of_contained_at P f [] x all k low is = absurd (omega (arith, low))
all_of_contained_at P f (y ∷ ys) x all zero low is = subst (λ z. P (f z)) is all.0
all_of_contained_at P f (y ∷ ys) x all (suc k) low is = all_of_contained_at P f ys x all.1 k (omega (arith, low)) is

pub all_of_contained : {X Y : Type 0} (P : Y → Type 0) (f : X → Y) (xs : List X) (x : X) → AllByRecursion P (map f xs) → Contains xs x → P (f x)
all_of_contained P f xs x all (k, low, is) = all_of_contained_at P f xs x all k low is

contains_map_at : {X Y : Type 0} (f : X → Y) (xs : List X) (x : X) (k : ℕ) → k < length xs → slice_index_or xs k x ≡ x → Contains (map f xs) (f x)
contains_map_at f [] x k low is = absurd (omega (arith, low))
contains_map_at f (y ∷ ys) x zero low is = (zero, omega arith, ap f is)
contains_map_at f (y ∷ ys) x (suc k) low is = let later = contains_map_at f ys x k (omega (arith, low)) is in (suc later.0, omega (arith, later.1), later.2)

pub contains_map : {X Y : Type 0} (f : X → Y) (xs : List X) (x : X) → Contains xs x → Contains (map f xs) (f x)
contains_map f xs x (k, low, is) = contains_map_at f xs x k low is

from_contains_at : {X Y : Type 0} (f : X → Y) (xs : List X) (y : Y) (k : ℕ) → k < length (map f xs) → slice_index_or (map f xs) k y ≡ y → (x : X) × Contains xs x × (f x ≡ y)
from_contains_at f [] y k low is = absurd (omega (arith, low))
from_contains_at f (x ∷ xs) y zero low is = (x, (zero, omega arith, refl), is)
from_contains_at f (x ∷ xs) y (suc k) low is =
    let later = from_contains_at f xs y k (omega (arith, low)) is in (later.0, (suc later.1.0, omega (arith, later.1.1), later.1.2), later.2)

pub from_contains : {X Y : Type 0} (f : X → Y) (xs : List X) (y : Y) → Contains (map f xs) y → (x : X) × Contains xs x × (f x ≡ y)
from_contains f xs y (k, low, is) = from_contains_at f xs y k low is

-- ---- lists
module _ {X J : Type 0} (key : X → J) (spell : J → List ℕ) where
  abbrev pub at : List ℕ → List X → Option X
  at t xs = lookup (λ k. is_eq (C t (spell k))) (map (λ x. (key x, x)) xs)

  abbrev pub IsIn : List X → X → Type 0
  IsIn xs x = at (spell (key x)) xs ≡ Some x

  pub at-spelling : (t : List ℕ) (xs : List X) (x : X) → at t xs ≡ Some x → t ≡ spell (key x)
  at-spelling t [] x h = absurd (none-some x h)
  at-spelling t (y ∷ ys) x h =
      elim (is_eq (C t (spell (key y)))) as (λ b. is_eq (C t (spell (key y))) ≡ b → cond b (Some y) (at t ys) ≡ Some x → t ≡ spell (key x)) [
        | true ↦ λ e g. same_spelling t (spell (key y)) e ∙ ap (λ z. spell (key z)) (same_Some y x g)
        | false ↦ λ e g. at-spelling t ys x g
      ] refl h

  pub in_found : (t : List ℕ) (xs : List X) (x : X) → at t xs ≡ Some x → IsIn xs x
  in_found t xs x h = ap (λ u. at u xs) (sym (at-spelling t xs x h)) ∙ h

  pub one_in : (xs : List X) (x y : X) → IsIn xs x → IsIn xs y → spell (key x) ≡ spell (key y) → x ≡ y
  one_in xs x y h g e = same_Some x y (sym h ∙ ap (λ u. at u xs) e ∙ g)

  pub contained : (t : List ℕ) (xs : List X) (x : X) → at t xs ≡ Some x → Contains xs x
  contained t [] x h = absurd (none-some x h)
  contained t (y ∷ ys) x h =
      elim (is_eq (C t (spell (key y)))) as (λ b. cond b (Some y) (at t ys) ≡ Some x → Contains (y ∷ ys) x) [
        | true ↦ λ g. (zero, omega arith, same_Some y x g)
        | false ↦ λ g. let later = contained t ys x g in (suc later.0, omega (arith, later.1), later.2)
      ] h

  in_at : (xs : List X) (x : X) → IsStrictlySortedBy (λ a b. C (spell a) (spell b)) (map key xs) → (k : ℕ) → k < length xs → slice_index_or xs k x ≡ x → IsIn xs x
  unfolding IsStrictlySortedBy
  in_at [] x sorted k low is = absurd (omega (arith, low))
  in_at (y ∷ ys) x sorted zero low is =
      ap (λ z. at (spell (key z)) (y ∷ ys)) (sym is) ∙ ap (λ b. cond b (Some y) (at (spell (key y)) ys)) (ap is_eq (alike (spell (key y)))) ∙ ap Some is
  in_at (y ∷ ys) x sorted (suc k) low is =
      let below : C (spell (key y)) (spell (key x)) ≡ Less = all_of_contained_at (λ j. C (spell (key y)) (spell j) ≡ Less) key ys x sorted.0 k (omega (arith, low)) is in
      ap (λ b. cond b (Some y) (at (spell (key x)) ys)) (apart (spell (key y)) (spell (key x)) below) ∙ in_at ys x sorted.1 k (omega (arith, low)) is

  pub in_contained : (xs : List X) (x : X) → IsStrictlySortedBy (λ a b. C (spell a) (spell b)) (map key xs) → Contains xs x → IsIn xs x
  in_contained xs x sorted (k, low, is) = in_at xs x sorted k low is

-- ---- maps
swapped : {A : Type 0} (b c : Bool) (x y r : A) → (b ≡ true → c ≡ true → ⊥) → cond b x (cond c y r) ≡ cond c y (cond b x r)
swapped true true x y r h = absurd (h refl refl)
swapped true false x y r h = refl
swapped false true x y r h = refl
swapped false false x y r h = refl

once : {A : Type 0} (b : Bool) (x y r : A) → cond b x r ≡ cond b x (cond b y r)
once true x y r = refl
once false x y r = refl

both_some : {A B : Type 0} (b : Bool) (x : A) (y : B) (o : Option A) (p : Option B) → is_some o ≡ is_some p → is_some (cond b (Some x) o) ≡ is_some (cond b (Some y) p)
both_some true x y o p h = refl
both_some false x y o p h = h

module _ {K V X J : Type 0} (text : K → List ℕ) (see : V → X) (key : X → J) (spell : J → List ℕ) where
  abbrev order : K → K → Ordering
  order k l = C (text k) (text l)

  abbrev seen : List (K × V) → List X
  seen es = map (λ e. see e.1) es

  abbrev AreKeyed : List (K × V) → Type 0
  AreKeyed es = AllByRecursion (λ e. text e.0 ≡ spell (key (see e.1))) es

  pub keyed-insert : (k : K) (v : V) (es : List (K × V)) → text k ≡ spell (key (see v)) → AreKeyed es → AreKeyed (insert_entry order es k v)
  keyed-insert k v [] one all = (one, tt)
  keyed-insert k v (e ∷ es) one all =
      elim (order k e.0) as (λ o. order k e.0 ≡ o → AreKeyed (match_ordering o ((k, v) ∷ e ∷ es) ((e.0, v) ∷ es) (e ∷ insert_entry order es k v))) [
        | Less ↦ λ _. (one, all)
        | Equal ↦ λ h. (sym (exact_bytes (text k) (text e.0) h) ∙ one, all.1)
        | Greater ↦ λ _. (all.0, keyed-insert k v es one all.1)
      ] refl

  pub at-insert : (t : List ℕ) (k : K) (v : V) (es : List (K × V)) → text k ≡ spell (key (see v)) → AreKeyed es
      → at key spell t (seen (insert_entry order es k v)) ≡ cond (is_eq (C t (spell (key (see v))))) (Some (see v)) (at key spell t (seen es))
  at-insert t k v [] one all = refl
  at-insert t k v (e ∷ es) one all =
      let mine : List ℕ = spell (key (see v)) in
      let first : List ℕ = spell (key (see e.1)) in
      elim (order k e.0) as (λ o. order k e.0 ≡ o → at key spell t (seen (match_ordering o ((k, v) ∷ e ∷ es) ((e.0, v) ∷ es) (e ∷ insert_entry order es k v))) ≡ cond (is_eq (C t mine)) (Some (see v)) (at key spell t (seen (e ∷ es)))) [
        | Less ↦ λ _. refl
        | Equal ↦ λ h.
            let same : mine ≡ first = sym one ∙ exact_bytes (text k) (text e.0) h ∙ all.0 in
            once (is_eq (C t mine)) (Some (see v)) (Some (see e.1)) (at key spell t (seen es))
            ∙ ap (λ u. cond (is_eq (C t mine)) (Some (see v)) (cond (is_eq (C t u)) (Some (see e.1)) (at key spell t (seen es)))) same
        | Greater ↦ λ h.
            ap (λ o. cond (is_eq (C t first)) (Some (see e.1)) o) (at-insert t k v es one all.1)
            ∙ swapped (is_eq (C t first)) (is_eq (C t mine)) (Some (see e.1)) (Some (see v)) (at key spell t (seen es))
            (λ p q.
            let same : text k ≡ text e.0 = one ∙ sym (same_spelling t mine q) ∙ same_spelling t first p ∙ sym all.0 in
            let equal : order k e.0 ≡ Equal = ap (λ u. C u (text e.0)) same ∙ alike (text e.0) in
            true≢false (sym (ap is_eq equal) ∙ ap is_eq h))
      ] refl

  pub some-lookup : (t : List ℕ) (es : List (K × V)) → AreKeyed es → is_some (lookup (λ k. is_eq (C t (text k))) es) ≡ is_some (at key spell t (seen es))
  some-lookup t [] all = refl
  some-lookup t (e ∷ es) all =
      both_some (is_eq (C t (text e.0))) e.1 (see e.1) (lookup (λ k. is_eq (C t (text k))) es) (at key spell t (seen es)) (some-lookup t es all.1)
      ∙ ap (λ u. is_some (cond (is_eq (C t u)) (Some (see e.1)) (at key spell t (seen es)))) all.0

  above : (t u : List ℕ) → t ≡ u → (es : List (K × V)) → AllByRecursion (λ l. C t (text l) ≡ Less) (keys_of es) → AreKeyed es → AllByRecursion (λ j. C u (spell j) ≡ Less) (map key (seen es))
  above t u same [] low all = tt
  above t u same (e ∷ es) low all = (ap (λ x. C x (spell (key (see e.1)))) (sym same) ∙ ap (C t) (sym all.0) ∙ low.0, above t u same es low.1 all.1)

  pub sorted-seen : (es : List (K × V)) → IsStrictlySortedBy order (keys_of es) → AreKeyed es → IsStrictlySortedBy (λ a b. C (spell a) (spell b)) (map key (seen es))
  unfolding IsStrictlySortedBy
  sorted-seen [] sorted all = tt
  sorted-seen (e ∷ es) sorted all = (above (text e.0) (spell (key (see e.1))) all.0 es sorted.0 all.1, sorted-seen es sorted.1 all.1)

pub lookup-insert : {K V : Type 0} (text : K → List ℕ) (t : List ℕ) (k : K) (v : V) (es : List (K × V))
    → lookup (λ x. is_eq (C t (text x))) (insert_entry (λ a b. C (text a) (text b)) es k v) ≡ cond (is_eq (C t (text k))) (Some v) (lookup (λ x. is_eq (C t (text x))) es)
lookup-insert text t k v [] = refl
lookup-insert text t k v (e ∷ es) =
    elim (C (text k) (text e.0)) as (λ o. C (text k) (text e.0) ≡ o
    → lookup (λ x. is_eq (C t (text x))) (match_ordering o ((k, v) ∷ e ∷ es) ((e.0, v) ∷ es) (e ∷ insert_entry (λ a b. C (text a) (text b)) es k v)) ≡ cond (is_eq (C t (text k))) (Some v) (cond (is_eq (C t (text e.0))) (Some e.1) (lookup (λ x. is_eq (C t (text x))) es))) [
      | Less ↦ λ _. refl
      | Equal ↦ λ h.
          let same : text k ≡ text e.0 = exact_bytes (text k) (text e.0) h in
          once (is_eq (C t (text e.0))) (Some v) (Some e.1) (lookup (λ x. is_eq (C t (text x))) es)
          ∙ ap (λ u. cond (is_eq (C t u)) (Some v) (cond (is_eq (C t (text e.0))) (Some e.1) (lookup (λ x. is_eq (C t (text x))) es))) (sym same)
      | Greater ↦ λ h.
          ap (λ o. cond (is_eq (C t (text e.0))) (Some e.1) o) (lookup-insert text t k v es)
          ∙ swapped (is_eq (C t (text e.0))) (is_eq (C t (text k))) (Some e.1) (Some v) (lookup (λ x. is_eq (C t (text x))) es)
          (λ p q.
          let both : text k ≡ text e.0 = sym (same_spelling t (text k) q) ∙ same_spelling t (text e.0) p in
          let equal : C (text k) (text e.0) ≡ Equal = ap (λ u. C u (text e.0)) both ∙ alike (text e.0) in
          true≢false (sym (ap is_eq equal) ∙ ap is_eq h))
    ] refl
