-- Lists of entries stay in order through a change, and are told by their look-ups.
use Rattle.std.proofs.Common.{◌≡◌, ℕ, List, [], ◌∷◌, map, Bool, true, false, cond, ◌&&◌, Option, Some, None, refl, sym, ap, ◌∙◌, Ordering, Less, Equal, Greater, is_eq, ⊎_elim}
use Rattle.std.specs.Ordering.{ordering_then, ordering_reverse, match_ordering, eq_by_cmp}
use Rattle.std.specs.Cmp.{IsTotalOrder}
use Rattle.std.specs.List.{AllByRecursion, filter}
use Rattle.std.specs.List.Sorted.{IsStrictlySortedBy}
use Rattle.std.specs.Map.{lookup, keys_of, remove_entry, set_value}
use Rattle.std.specs.Option.{IsSome}
use Rattle.std.specs.BTreeMap.{is_at, insert_entry}
use Rattle.std.proofs.lemmas.Cmp.{tied_itself, eq_by_cmp_equiv}
use Rattle.std.proofs.lemmas.Bool.{cases_Bool}
use Rattle.std.proofs.lemmas.Option.{same_Some, none-some}
use Rattle.std.proofs.lemmas.Map.{lookup-none, lookup-set_value, lookup-remove_entry}
use Rattle.std.proofs.lemmas.Map.Entries.{lookup_head, lookup_tail, none_past_head, none_below_head}
use Rattle.std.proofs.lemmas.Map.Keys.{sorted_head, sorted_tail, IsDistinct-from_sorted}
use Rattle.std.proofs.lemmas.Map.Lookups.{CmpEqualImpliesEq}
use Rattle.ordered_table.specs.Rows.{pair_cmp, row_at, row_of}
use Rattle.ordered_table.proofs.Flat.{C, c_total}
use Rattle.ordered_table.proofs.Ordered.{cons_sorted, nil_sorted, unlike}

-- ---- the keys stay in order
module _ {K : Type 0} {R : K → K → Ordering} (o : IsTotalOrder R) where
  pub all_less : (k x : K) → R k x ≡ Less → (ks : List K) → AllByRecursion (λ y. R x y ≡ Less) ks → AllByRecursion (λ y. R k y ≡ Less) ks
  all_less k x h [] a = tt
  all_less k x h (y ∷ ys) a = (o.trans k x y h a.0, all_less k x h ys a.1)

  turned : (a b : K) → R a b ≡ Greater → R b a ≡ Less
  turned a b h = o.antisymm b a ∙ ap ordering_reverse h

  alike : (k x y : K) → is_eq (R k x) ≡ true → is_eq (R k y) ≡ is_eq (R x y)
  alike k x y h = ap is_eq (o.congr k x y (unlike (R k x) h))

  flipped : (k q : K) → is_eq (R k q) ≡ is_eq (R q k)
  flipped k q = (eq_by_cmp_equiv o).symm k q

module _ {K X : Type 0} {R : K → K → Ordering} (o : IsTotalOrder R) where
  below_inserted : (x k : K) (v : X) (es : List (K × X)) → R x k ≡ Less → AllByRecursion (λ y. R x y ≡ Less) (keys_of es) → AllByRecursion (λ y. R x y ≡ Less) (keys_of (insert_entry R es k v))
  below_inserted x k v [] h a = (h, tt)
  below_inserted x k v (e ∷ es) h a =
      elim (R k e.0) as (λ r. AllByRecursion (λ y. R x y ≡ Less) (keys_of (match_ordering r ((k, v) ∷ e ∷ es) ((e.0, v) ∷ es) (e ∷ insert_entry R es k v)))) [
        | Less ↦ (h, a)
        | Equal ↦ a
        | Greater ↦ (a.0, below_inserted x k v es h a.1)
      ]

  pub sorted-insert : (k : K) (v : X) (es : List (K × X)) → IsStrictlySortedBy R (keys_of es) → IsStrictlySortedBy R (keys_of (insert_entry R es k v))
  sorted-insert k v [] s = cons_sorted R k [] tt s
  sorted-insert k v (e ∷ es) s =
      let rest = sorted_tail R e.0 (keys_of es) s in
      let head = sorted_head R e.0 (keys_of es) s in
      elim (R k e.0) as (λ r. R k e.0 ≡ r → IsStrictlySortedBy R (keys_of (match_ordering r ((k, v) ∷ e ∷ es) ((e.0, v) ∷ es) (e ∷ insert_entry R es k v)))) [
        | Less ↦ λ h. cons_sorted R k (e.0 ∷ keys_of es) (h, all_less o k e.0 h (keys_of es) head) s
        | Equal ↦ λ h. s
        | Greater ↦ λ h. cons_sorted R e.0 (keys_of (insert_entry R es k v)) (below_inserted e.0 k v es (turned o k e.0 h) head) (sorted-insert k v es rest)
      ] refl

  below_removed : (test : K → Bool) (x : K) (es : List (K × X)) → AllByRecursion (λ y. R x y ≡ Less) (keys_of es) → AllByRecursion (λ y. R x y ≡ Less) (keys_of (remove_entry test es))
  below_removed test x [] a = tt
  below_removed test x (e ∷ es) a =
      elim (test e.0) as (λ b. AllByRecursion (λ y. R x y ≡ Less) (keys_of (cond b es (e ∷ remove_entry test es)))) [
        | true ↦ a.1
        | false ↦ (a.0, below_removed test x es a.1)
      ]

  pub sorted-remove : (test : K → Bool) (es : List (K × X)) → IsStrictlySortedBy R (keys_of es) → IsStrictlySortedBy R (keys_of (remove_entry test es))
  sorted-remove test [] s = s
  sorted-remove test (e ∷ es) s =
      elim (test e.0) as (λ b. IsStrictlySortedBy R (keys_of (cond b es (e ∷ remove_entry test es)))) [
        | true ↦ sorted_tail R e.0 (keys_of es) s
        | false ↦ cons_sorted R e.0 (keys_of (remove_entry test es)) (below_removed test e.0 es (sorted_head R e.0 (keys_of es) s)) (sorted-remove test es (sorted_tail R e.0 (keys_of es) s))
      ]

  -- ---- two lists in order with equal look-ups are one
  abbrev found_in : List (K × X) → K → Option X
  found_in es q = lookup (is_at (R q)) es

  at_head : (x : K × X) (xs : List (K × X)) → found_in (x ∷ xs) x.0 ≡ Some x.1
  at_head x xs = lookup_head (is_at (R x.0)) x xs (ap is_eq (tied_itself o x.0))

  past_head : (q : K) (x : K × X) (xs : List (K × X)) → IsStrictlySortedBy R (keys_of (x ∷ xs)) → eq_by_cmp R q x.0 ≡ true → found_in xs q ≡ None
  past_head q x xs s t = lookup-none (is_at (R q)) xs (none_past_head (eq_by_cmp_equiv o) q x xs (IsDistinct-from_sorted R _ s) t)

  module _ (x y : K × X) (xs ys : List (K × X)) (s : IsStrictlySortedBy R (keys_of (x ∷ xs))) (t : IsStrictlySortedBy R (keys_of (y ∷ ys))) (h : (q : K) → found_in (x ∷ xs) q ≡ found_in (y ∷ ys) q) where
    by_heads : (r : Ordering) → R x.0 y.0 ≡ r → R x.0 y.0 ≡ Equal
    by_heads Less p = absurd (none-some x.1 (sym (sym (at_head x xs) ∙ h x.0 ∙ lookup-none _ (y ∷ ys) (none_below_head o x.0 y ys t p))))
    by_heads Equal p = p
    by_heads Greater p = absurd (none-some y.1 (sym (sym (at_head y ys) ∙ sym (h y.0) ∙ lookup-none _ (x ∷ xs) (none_below_head o y.0 x xs s (turned o x.0 y.0 p)))))

    heads : R x.0 y.0 ≡ Equal
    heads = by_heads (R x.0 y.0) refl

    values : x.1 ≡ y.1
    values = same_Some x.1 y.1 (sym (at_head x xs) ∙ h x.0 ∙ lookup_head (is_at (R x.0)) y ys (ap is_eq heads))

    tails : (q : K) → found_in xs q ≡ found_in ys q
    tails q =
        let laws = eq_by_cmp_equiv o in
        let e : eq_by_cmp R q y.0 ≡ eq_by_cmp R q x.0 = laws.symm q y.0 ∙ sym (laws.congr x.0 y.0 q (ap is_eq heads)) ∙ laws.symm x.0 q in
        ⊎_elim
        (λ b. past_head q x xs s b ∙ sym (past_head q y ys t (e ∙ b)))
        (λ b. sym (lookup_tail (is_at (R q)) x xs b) ∙ h q ∙ lookup_tail (is_at (R q)) y ys (e ∙ b))
        (cases_Bool (eq_by_cmp R q x.0))

  pub same_by_lookups : CmpEqualImpliesEq R → (es fs : List (K × X)) → IsStrictlySortedBy R (keys_of es) → IsStrictlySortedBy R (keys_of fs)
      → ((q : K) → found_in es q ≡ found_in fs q) → es ≡ fs
  same_by_lookups exact [] [] s t h = refl
  same_by_lookups exact [] (y ∷ ys) s t h = absurd (none-some y.1 (h y.0 ∙ at_head y ys))
  same_by_lookups exact (x ∷ xs) [] s t h = absurd (none-some x.1 (sym (sym (at_head x xs) ∙ h x.0)))
  same_by_lookups exact (x ∷ xs) (y ∷ ys) s t h =
      let rest = same_by_lookups exact xs ys (sorted_tail R x.0 (keys_of xs) s) (sorted_tail R y.0 (keys_of ys) t) (tails x y xs ys s t h) in
      λ i. (exact x.0 y.0 (heads x y xs ys s t h) i, values x y xs ys s t h i) ∷ rest i

  -- what holds of each key and value that a look-up gives holds of each entry
  still_found : (q : K) (v : X) (e : K × X) (es : List (K × X)) → IsStrictlySortedBy R (keys_of (e ∷ es)) → found_in es q ≡ Some v → found_in (e ∷ es) q ≡ Some v
  still_found q v e es s h =
      ⊎_elim
      (λ b. absurd (none-some v (sym (past_head q e es s b) ∙ h)))
      (λ b. lookup_tail (is_at (R q)) e es b ∙ h)
      (cases_Bool (eq_by_cmp R q e.0))

  pub all_by_lookups : (Holds : K → X → Type 0) (es : List (K × X)) → IsStrictlySortedBy R (keys_of es) → ((q : K) (v : X) → found_in es q ≡ Some v → Holds q v) → AllByRecursion (λ e. Holds e.0 e.1) es
  all_by_lookups Holds [] s h = tt
  all_by_lookups Holds (e ∷ es) s h = (h e.0 e.1 (at_head e es), all_by_lookups Holds es (sorted_tail R e.0 (keys_of es) s) (λ q v i. h q v (still_found q v e es s i)))

  -- ---- look-ups after a value was written over, and after an entry was taken out
  pub lookup-set : (q k : K) (w : X) (es : List (K × X)) → IsSome (found_in es k) → found_in (set_value (is_at (R k)) es w) q ≡ cond (is_eq (R q k)) (Some w) (found_in es q)
  lookup-set q k w es h =
      lookup-set_value (eq_by_cmp_equiv o) (is_at (R k)) (alike o k) q w es h
      ∙ ap (λ b. cond b (Some w) (found_in es q)) (flipped o k q)

  pub lookup-removed : (q k : K) (es : List (K × X)) → IsStrictlySortedBy R (keys_of es) → found_in (remove_entry (is_at (R k)) es) q ≡ cond (is_eq (R q k)) None (found_in es q)
  lookup-removed q k es s =
      lookup-remove_entry (eq_by_cmp_equiv o) (is_at (R k)) (alike o k) q es (IsDistinct-from_sorted R (keys_of es) s)
      ∙ ap (λ b. cond b None (found_in es q)) (flipped o k q)

-- ---- filters that a range makes
pub filter-all : {X : Type 0} (p : X → Bool) → ((x : X) → p x ≡ true) → (xs : List X) → filter p xs ≡ xs
filter-all p h [] = refl
filter-all p h (x ∷ xs) = ap (λ b. cond b (x ∷ filter p xs) (filter p xs)) (h x) ∙ ap (λ ys. x ∷ ys) (filter-all p h xs)

pub filter-alike : {X : Type 0} (p q : X → Bool) → ((x : X) → p x ≡ q x) → (xs : List X) → filter p xs ≡ filter q xs
filter-alike p q h [] = refl
filter-alike p q h (x ∷ xs) = ap (λ b. cond b (x ∷ filter p xs) (filter p xs)) (h x) ∙ ap (λ ys. cond (q x) (x ∷ ys) ys) (filter-alike p q h xs)

pub and_true : (b : Bool) → (b && true) ≡ b
and_true true = refl
and_true false = refl

-- ---- the row under a text
after_first : (a b : Ordering) → a ≡ Equal → ordering_then a b ≡ Less → b ≡ Less
after_first a b e h = sym (ap (λ r. ordering_then r b) e) ∙ h

module _ {K V : Type 0} (R : K → K → Ordering) where
  -- what a row has at a key is what the table has at the pair
  pub lookup-row : (at : List ℕ) (q : K) (es : List ((List ℕ × K) × V)) → lookup (is_at (R q)) (row_of at es) ≡ lookup (is_at (pair_cmp R (at, q))) es
  lookup-row at q [] = refl
  lookup-row at q (e ∷ es) =
      elim (C at e.0.0) as (λ r. lookup (is_at (R q)) (map (λ x. (x.0.1, x.1)) (cond (is_eq r) (e ∷ row_at at es) (row_at at es)))
      ≡ cond (is_eq (ordering_then r (R q e.0.1))) (Some e.1) (lookup (is_at (pair_cmp R (at, q))) es)) [
        | Less ↦ lookup-row at q es
        | Equal ↦ ap (cond (is_eq (R q e.0.1)) (Some e.1)) (lookup-row at q es)
        | Greater ↦ lookup-row at q es
      ]

  row_below : (at s : List ℕ) (k : K) (es : List ((List ℕ × K) × V)) → C at s ≡ Equal → AllByRecursion (λ y. pair_cmp R (s, k) y ≡ Less) (keys_of es) → AllByRecursion (λ y. R k y ≡ Less) (keys_of (row_of at es))
  row_below at s k [] t a = tt
  row_below at s k (e ∷ es) t a =
      elim (is_eq (C at e.0.0)) as (λ b. is_eq (C at e.0.0) ≡ b → AllByRecursion (λ y. R k y ≡ Less) (keys_of (map (λ (x : (List ℕ × K) × V). (x.0.1, x.1)) (cond b (e ∷ row_at at es) (row_at at es))))) [
        | true ↦ λ h. (after_first (C s e.0.0) (R k e.0.1) (sym (c_total.congr at s e.0.0 t) ∙ unlike (C at e.0.0) h) a.0, row_below at s k es t a.1)
        | false ↦ λ h. row_below at s k es t a.1
      ] refl

  pub sorted-row : (at : List ℕ) (es : List ((List ℕ × K) × V)) → IsStrictlySortedBy (pair_cmp R) (keys_of es) → IsStrictlySortedBy R (keys_of (row_of at es))
  sorted-row at [] s = nil_sorted R
  sorted-row at (e ∷ es) s =
      let rest = sorted-row at es (sorted_tail (pair_cmp R) e.0 (keys_of es) s) in
      elim (is_eq (C at e.0.0)) as (λ b. is_eq (C at e.0.0) ≡ b → IsStrictlySortedBy R (keys_of (map (λ (x : (List ℕ × K) × V). (x.0.1, x.1)) (cond b (e ∷ row_at at es) (row_at at es))))) [
        | true ↦ λ h. cons_sorted R e.0.1 (keys_of (row_of at es)) (row_below at e.0.0 e.0.1 es (unlike (C at e.0.0) h) (sorted_head (pair_cmp R) e.0 (keys_of es) s)) rest
        | false ↦ λ h. rest
      ] refl

-- ---- entries that a test keeps
module _ {K X : Type 0} (R : K → K → Ordering) (p : K × X → Bool) where
  below_filtered : (k : K) (es : List (K × X)) → AllByRecursion (λ y. R k y ≡ Less) (keys_of es) → AllByRecursion (λ y. R k y ≡ Less) (keys_of (filter p es))
  below_filtered k [] a = tt
  below_filtered k (e ∷ es) a =
      elim (p e) as (λ b. AllByRecursion (λ y. R k y ≡ Less) (keys_of (cond b (e ∷ filter p es) (filter p es)))) [
        | true ↦ (a.0, below_filtered k es a.1)
        | false ↦ below_filtered k es a.1
      ]

  pub sorted-filter : (es : List (K × X)) → IsStrictlySortedBy R (keys_of es) → IsStrictlySortedBy R (keys_of (filter p es))
  sorted-filter [] s = s
  sorted-filter (e ∷ es) s =
      elim (p e) as (λ b. IsStrictlySortedBy R (keys_of (cond b (e ∷ filter p es) (filter p es)))) [
        | true ↦ cons_sorted R e.0 (keys_of (filter p es)) (below_filtered e.0 es (sorted_head R e.0 (keys_of es) s)) (sorted-filter es (sorted_tail R e.0 (keys_of es) s))
        | false ↦ sorted-filter es (sorted_tail R e.0 (keys_of es) s)
      ]
