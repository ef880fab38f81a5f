-- The order of a table's entries, its rows, and look-ups in a list of entries that changed.
use Rattle.std.proofs.Common.{◌≡◌, ℕ, List, [], ◌∷◌, ◌++◌, map, Bool, true, false, cond, Some, None, refl, sym, ap, ◌∙◌, subst, Ordering, Less, Equal, Greater, is_eq, true≢false}
use Rattle.std.specs.Ordering.{ordering_then, match_ordering}
use Rattle.std.specs.Cmp.{IsTotalOrder}
use Rattle.std.specs.List.{AllByRecursion, All}
use Rattle.std.specs.List.Sorted.{IsStrictlySortedBy}
use Rattle.std.specs.Map.{lookup, keys_of, values_of, set_value}
use Rattle.std.specs.BTreeMap.{is_at, insert_entry}
use Rattle.std.proofs.lemmas.Cmp.{tied_itself, alike_right, on_total, then_total}
use Rattle.std.proofs.lemmas.Option.{same_Some, none-some}
use Rattle.std.proofs.lemmas.Map.Keys.{sorted_head, sorted_tail}
use Rattle.std.proofs.lemmas.Map.Lookups.{exact_bytes}
use Rattle.std.proofs.lemmas.List.Elements.{recursion_from_All}
use Rattle.ordered_table.specs.Rows.{pair_cmp, under, flat, row_at, row_of}
use Rattle.ordered_table.proofs.Flat.{C, c_total, none_later}

-- pairs are in a total order
pub pairs_total : {K : Type 0} (R : K → K → Ordering) → IsTotalOrder R → IsTotalOrder (pair_cmp R)
pairs_total {K} R o = then_total (on_total (λ (p : List ℕ × K). p.0) c_total) (on_total (λ (p : List ℕ × K). p.1) o)

pub cons_sorted : {K : Type 0} (c : K → K → Ordering) (k : K) (ks : List K) → AllByRecursion (λ y. c k y ≡ Less) ks → IsStrictlySortedBy c ks → IsStrictlySortedBy c (k ∷ ks)
unfolding IsStrictlySortedBy
cons_sorted c k ks h s = (h, s)

pub nil_sorted : {K : Type 0} (c : K → K → Ordering) → IsStrictlySortedBy c []
unfolding IsStrictlySortedBy
nil_sorted c = tt

-- an entry with nothing after it is in order
pub one_sorted : {K V : Type 0} (c : K → K → Ordering) (e : K × V) (es : List (K × V)) → es ≡ [] → IsStrictlySortedBy c (keys_of (e ∷ es))
one_sorted c e es h = subst (λ xs. IsStrictlySortedBy c (keys_of (e ∷ xs))) (sym h) (cons_sorted c e.0 [] tt (nil_sorted c))

module _ {K V : Type 0} (R : K → K → Ordering) where
  below_under : (s q : List ℕ) (k : K) (row : List (K × V)) (xs : List ((List ℕ × K) × V)) → C s q ≡ Less
      → AllByRecursion (λ y. pair_cmp R (s, k) y ≡ Less) (keys_of xs) → AllByRecursion (λ y. pair_cmp R (s, k) y ≡ Less) (keys_of (under q row ++ xs))
  below_under s q k [] xs h a = a
  below_under s q k (e ∷ es) xs h a = (ap (λ o. ordering_then o (R k e.0)) h, below_under s q k es xs h a)

  below_flat : (s : List ℕ) (k : K) (rs : List (List ℕ × List (K × V))) → AllByRecursion (λ q. C s q ≡ Less) (keys_of rs) → AllByRecursion (λ y. pair_cmp R (s, k) y ≡ Less) (keys_of (flat rs))
  below_flat s k [] h = tt
  below_flat s k (r ∷ rs) h = below_under s r.0 k r.1 (flat rs) h.0 (below_flat s k rs h.1)

  below_here : (s : List ℕ) (k : K) (row : List (K × V)) (xs : List ((List ℕ × K) × V)) → AllByRecursion (λ q. R k q ≡ Less) (keys_of row)
      → AllByRecursion (λ y. pair_cmp R (s, k) y ≡ Less) (keys_of xs) → AllByRecursion (λ y. pair_cmp R (s, k) y ≡ Less) (keys_of (under s row ++ xs))
  below_here s k [] xs h a = a
  below_here s k (e ∷ es) xs h a = (ap (λ o. ordering_then o (R k e.0)) (tied_itself c_total s) ∙ h.0, below_here s k es xs h.1 a)

  sorted_under : (s : List ℕ) (row : List (K × V)) (rs : List (List ℕ × List (K × V))) → IsStrictlySortedBy R (keys_of row) → AllByRecursion (λ q. C s q ≡ Less) (keys_of rs)
      → IsStrictlySortedBy (pair_cmp R) (keys_of (flat rs)) → IsStrictlySortedBy (pair_cmp R) (keys_of (under s row ++ flat rs))
  sorted_under s [] rs i h t = t
  sorted_under s (e ∷ es) rs i h t =
      cons_sorted (pair_cmp R) (s, e.0) (keys_of (under s es ++ flat rs))
      (below_here s e.0 es (flat rs) (sorted_head R e.0 (keys_of es) i) (below_flat s e.0 rs h))
      (sorted_under s es rs (sorted_tail R e.0 (keys_of es) i) h t)

  sorted_by_rows : (rs : List (List ℕ × List (K × V))) → IsStrictlySortedBy C (keys_of rs) → AllByRecursion (λ row. IsStrictlySortedBy R (keys_of row)) (values_of rs) → IsStrictlySortedBy (pair_cmp R) (keys_of (flat rs))
  sorted_by_rows [] s a = nil_sorted (pair_cmp R)
  sorted_by_rows (r ∷ rs) s a = sorted_under r.0 r.1 rs a.0 (sorted_head C r.0 (keys_of rs) s) (sorted_by_rows rs (sorted_tail C r.0 (keys_of rs) s) a.1)

  -- the entries of a table are in order
  pub sorted-flat : (rs : List (List ℕ × List (K × V))) (now : List ((List ℕ × K) × V)) → IsStrictlySortedBy C (keys_of rs) → All (λ row. IsStrictlySortedBy R (keys_of row)) (values_of rs) → flat rs ≡ now → IsStrictlySortedBy (pair_cmp R) (keys_of now)
  sorted-flat rs now s a v = subst (λ es. IsStrictlySortedBy (pair_cmp R) (keys_of es)) v (sorted_by_rows rs s (recursion_from_All _ _ a))

pub unlike : (o : Ordering) → is_eq o ≡ true → o ≡ Equal
unlike Less h = absurd (true≢false (sym h))
unlike Equal h = refl
unlike Greater h = absurd (true≢false (sym h))

-- ---- rows
module _ {K V : Type 0} where
  row_past : (at s : List ℕ) (row : List (K × V)) (xs : List ((List ℕ × K) × V)) → is_eq (C at s) ≡ false → row_at at (under s row ++ xs) ≡ row_at at xs
  row_past at s [] xs h = refl
  row_past at s (e ∷ es) xs h = ap (λ b. cond b (((s, e.0), e.1) ∷ row_at at (under s es ++ xs)) (row_at at (under s es ++ xs))) h ∙ row_past at s es xs h

  row_here : (at s : List ℕ) (row : List (K × V)) (xs : List ((List ℕ × K) × V)) → C at s ≡ Equal → row_at at (under s row ++ xs) ≡ under s row ++ row_at at xs
  row_here at s [] xs h = refl
  row_here at s (e ∷ es) xs h =
      ap (λ o. cond (is_eq o) (((s, e.0), e.1) ∷ row_at at (under s es ++ xs)) (row_at at (under s es ++ xs))) h ∙ ap (λ ys. ((s, e.0), e.1) ∷ ys) (row_here at s es xs h)

  pub row-absent : (at : List ℕ) (rs : List (List ℕ × List (K × V))) → lookup (is_at (C at)) rs ≡ None → row_at at (flat rs) ≡ []
  row-absent at [] h = refl
  row-absent at (r ∷ rs) h =
      elim (is_eq (C at r.0)) as (λ b. is_eq (C at r.0) ≡ b → cond b (Some r.1) (lookup (is_at (C at)) rs) ≡ None → row_at at (under r.0 r.1 ++ flat rs) ≡ []) [
        | true ↦ λ e i. absurd (none-some r.1 (sym i))
        | false ↦ λ e i. row_past at r.0 r.1 (flat rs) e ∙ row-absent at rs i
      ] refl h

  nothing_after : (xs : List ((List ℕ × K) × V)) → xs ++ [] ≡ xs
  nothing_after [] = refl
  nothing_after (x ∷ xs) = ap (λ ys. x ∷ ys) (nothing_after xs)

  pub row-flat : (R : K → K → Ordering) (at : List ℕ) (row : List (K × V)) (rs : List (List ℕ × List (K × V))) → IsStrictlySortedBy C (keys_of rs) → lookup (is_at (C at)) rs ≡ Some row → row_at at (flat rs) ≡ under at row
  row-flat R at row [] s h = absurd (none-some row h)
  row-flat R at row (r ∷ rs) s h =
      elim (is_eq (C at r.0)) as (λ b. is_eq (C at r.0) ≡ b → cond b (Some r.1) (lookup (is_at (C at)) rs) ≡ Some row → row_at at (under r.0 r.1 ++ flat rs) ≡ under at row) [
        | true ↦ λ e i.
            let tied = unlike (C at r.0) e in
            row_here at r.0 r.1 (flat rs) tied
            ∙ ap (λ xs. under r.0 r.1 ++ xs) (row-absent at rs (none_later R at r rs s tied))
            ∙ nothing_after (under r.0 r.1)
            ∙ ap (λ (xs : List (K × V)). under r.0 xs) (same_Some r.1 row i)
            ∙ ap (λ t. under t row) (sym (exact_bytes at r.0 tied))
        | false ↦ λ e i. row_past at r.0 r.1 (flat rs) e ∙ row-flat R at row rs (sorted_tail C r.0 (keys_of rs) s) i
      ] refl h

  pub row-under : (at : List ℕ) (row : List (K × V)) → map (λ e. (e.0.1, e.1)) (under at row) ≡ row
  row-under at [] = refl
  row-under at (e ∷ es) = ap (λ ys. e ∷ ys) (row-under at es)

  -- the row under a text, where the table has it, and where it does not
  pub row_found : (R : K → K → Ordering) (at : List ℕ) (row : List (K × V)) (rs : List (List ℕ × List (K × V))) (now : List ((List ℕ × K) × V)) → IsStrictlySortedBy C (keys_of rs) → flat rs ≡ now → lookup (is_at (C at)) rs ≡ Some row → row ≡ row_of at now
  row_found R at row rs now s v h = sym (row-under at row) ∙ ap (map (λ e. (e.0.1, e.1))) (sym (row-flat R at row rs s h)) ∙ ap (row_of at) v

  pub row_missed : (at : List ℕ) (rs : List (List ℕ × List (K × V))) (now : List ((List ℕ × K) × V)) → flat rs ≡ now → lookup (is_at (C at)) rs ≡ None → [] ≡ row_of at now
  row_missed at rs now v h = ap (map (λ e. (e.0.1, e.1))) (sym (row-absent at rs h)) ∙ ap (row_of at) v

-- ---- look-ups in a list with one more entry
shadowed : {A : Type 0} (b : Bool) (x y z : A) → cond b x z ≡ cond b x (cond b y z)
shadowed true x y z = refl
shadowed false x y z = refl

swapped : {A : Type 0} (a b : Bool) (x y z : A) → (a ≡ true → b ≡ true → ⊥) → cond a x (cond b y z) ≡ cond b y (cond a x z)
swapped true true x y z apart = absurd (apart refl refl)
swapped true false x y z apart = refl
swapped false b x y z apart = refl

not_greater : {K : Type 0} {R : K → K → Ordering} → IsTotalOrder R → (q x k : K) → is_eq (R q x) ≡ true → is_eq (R q k) ≡ true → R k x ≡ Greater → ⊥
not_greater {K} {R} o q x k a b g =
    let e : R k x ≡ R q x = sym (o.congr q k x (unlike (R q k) b)) in
    true≢false (sym a ∙ ap is_eq (sym e ∙ g))

module _ {K X : Type 0} {R : K → K → Ordering} (o : IsTotalOrder R) where
  pub lookup-insert : (q k : K) (v : X) (es : List (K × X)) → lookup (is_at (R q)) (insert_entry R es k v) ≡ cond (is_eq (R q k)) (Some v) (lookup (is_at (R q)) es)
  lookup-insert q k v [] = refl
  lookup-insert q k v (e ∷ es) =
      elim (R k e.0) as (λ r. R k e.0 ≡ r → lookup (is_at (R q)) (match_ordering r ((k, v) ∷ e ∷ es) ((e.0, v) ∷ es) (e ∷ insert_entry R es k v)) ≡ cond (is_eq (R q k)) (Some v) (lookup (is_at (R q)) (e ∷ es))) [
        | Less ↦ λ p. refl
        | Equal ↦ λ p. shadowed (is_eq (R q e.0)) (Some v) (Some e.1) (lookup (is_at (R q)) es) ∙ ap (λ r. cond (is_eq r) (Some v) (lookup (is_at (R q)) (e ∷ es))) (sym (alike_right o k e.0 q p))
        | Greater ↦ λ p. ap (cond (is_eq (R q e.0)) (Some e.1)) (lookup-insert q k v es) ∙ swapped _ _ _ _ _ (λ a b. not_greater o q e.0 k a b p)
      ] refl

pub set-absent : {K X : Type 0} (test : K → Bool) (es : List (K × X)) (w : X) → lookup test es ≡ None → set_value test es w ≡ es
set-absent test [] w h = refl
set-absent test (e ∷ es) w h =
    elim (test e.0) as (λ b. cond b (Some e.1) (lookup test es) ≡ None → cond b ((e.0, w) ∷ es) (e ∷ set_value test es w) ≡ e ∷ es) [
      | true ↦ λ i. absurd (none-some e.1 (sym i))
      | false ↦ λ i. ap (λ xs. e ∷ xs) (set-absent test es w i)
    ] h
