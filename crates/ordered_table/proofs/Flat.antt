-- What is done to one row is done to the whole table.
use Rattle.std.proofs.Common.{◌≡◌, ℕ, List, [], ◌∷◌, ◌++◌, true, false, cond, Option, Some, None, refl, sym, ap, ◌∙◌, nat_cmp, Ordering, Less, Equal, Greater, is_eq, true≢false}
use Rattle.std.specs.Option.{option_and_then, option_or}
use Rattle.std.specs.Ordering.{ordering_then, match_ordering}
use Rattle.std.specs.Cmp.Lexicographic.{slice_cmp}
use Rattle.std.specs.Cmp.{IsTotalOrder}
use Rattle.std.specs.List.{AllByRecursion}
use Rattle.std.specs.List.Sorted.{IsStrictlySortedBy}
use Rattle.std.specs.Map.{lookup, remove_entry, set_value, keys_of}
use Rattle.std.specs.BTreeMap.{is_at, insert_entry}
use Rattle.std.proofs.lemmas.Cmp.{nat_list_cmp_total, tied_itself, eq_by_cmp_equiv}
use Rattle.std.proofs.lemmas.Option.{same_Some, none-some}
use Rattle.std.proofs.lemmas.Map.{lookup-none}
use Rattle.std.proofs.lemmas.Map.Keys.{sorted_head, sorted_tail, IsDistinct-from_sorted}
use Rattle.std.proofs.lemmas.Map.Entries.{none_past_head, none_below_head}
use Rattle.std.proofs.lemmas.Map.Lookups.{exact_bytes}
use Rattle.ordered_table.specs.Rows.{pair_cmp, under, flat}

abbrev pub C : List ℕ → List ℕ → Ordering
C = slice_cmp nat_cmp

pub c_total : IsTotalOrder C
c_total = nat_list_cmp_total

or_none : {X : Type 0} (o : Option X) → option_or o None ≡ o
or_none None = refl
or_none (Some x) = refl

then_apart : (a b : Ordering) → is_eq a ≡ false → is_eq (ordering_then a b) ≡ false
then_apart Less b h = refl
then_apart Equal b h = absurd (true≢false h)
then_apart Greater b h = refl

then_tied : (a b : Ordering) → a ≡ Equal → ordering_then a b ≡ b
then_tied a b h = ap (λ o. ordering_then o b) h

module _ {K V : Type 0} (R : K → K → Ordering) where
  -- ---- looking up
  lookup_past : (q at : List ℕ) (k : K) (row : List (K × V)) (xs : List ((List ℕ × K) × V)) → is_eq (C q at) ≡ false → lookup (is_at ((pair_cmp R) (q, k))) (under at row ++ xs) ≡ lookup (is_at ((pair_cmp R) (q, k))) xs
  lookup_past q at k [] xs h = refl
  lookup_past q at k (e ∷ es) xs h =
      ap (λ b. cond b (Some e.1) (lookup (is_at ((pair_cmp R) (q, k))) (under at es ++ xs))) (then_apart (C q at) (R k e.0) h) ∙ lookup_past q at k es xs h

  lookup_here : (q at : List ℕ) (k : K) (row : List (K × V)) (xs : List ((List ℕ × K) × V)) → C q at ≡ Equal
      → lookup (is_at ((pair_cmp R) (q, k))) (under at row ++ xs) ≡ option_or (lookup (is_at (R k)) row) (lookup (is_at ((pair_cmp R) (q, k))) xs)
  lookup_here q at k [] xs h = refl
  lookup_here q at k (e ∷ es) xs h =
      ap (λ o. cond (is_eq o) (Some e.1) (lookup (is_at ((pair_cmp R) (q, k))) (under at es ++ xs))) (then_tied (C q at) (R k e.0) h)
      ∙ elim (is_eq (R k e.0)) as (λ b. cond b (Some e.1) (lookup (is_at ((pair_cmp R) (q, k))) (under at es ++ xs)) ≡ option_or (cond b (Some e.1) (lookup (is_at (R k)) es)) (lookup (is_at ((pair_cmp R) (q, k))) xs)) [
        | true ↦ refl
        | false ↦ lookup_here q at k es xs h
      ]

  pub none_later : (q : List ℕ) (r : List ℕ × List (K × V)) (rs : List (List ℕ × List (K × V))) → IsStrictlySortedBy C (keys_of (r ∷ rs)) → C q r.0 ≡ Equal → lookup (is_at (C q)) rs ≡ None
  none_later q r rs s e = lookup-none (is_at (C q)) rs (none_past_head (eq_by_cmp_equiv c_total) q r rs (IsDistinct-from_sorted C (keys_of (r ∷ rs)) s) (ap is_eq e))

  pub none_below : (q : List ℕ) (r : List ℕ × List (K × V)) (rs : List (List ℕ × List (K × V))) → IsStrictlySortedBy C (keys_of (r ∷ rs)) → C q r.0 ≡ Less → lookup (is_at (C q)) (r ∷ rs) ≡ None
  none_below q r rs s e = lookup-none (is_at (C q)) (r ∷ rs) (none_below_head c_total q r rs s e)

  -- what the table has at a pair is what the row has at the key
  pub lookup-flat : (q : List ℕ) (k : K) (rs : List (List ℕ × List (K × V))) → IsStrictlySortedBy C (keys_of rs)
      → lookup (is_at ((pair_cmp R) (q, k))) (flat rs) ≡ option_and_then (lookup (is_at (R k))) (lookup (is_at (C q)) rs)
  lookup-flat q k [] s = refl
  lookup-flat q k (r ∷ rs) s =
      let rest = lookup-flat q k rs (sorted_tail C r.0 (keys_of rs) s) in
      elim (C q r.0) as (λ o. C q r.0 ≡ o → lookup (is_at ((pair_cmp R) (q, k))) (under r.0 r.1 ++ flat rs) ≡ option_and_then (lookup (is_at (R k))) (cond (is_eq o) (Some r.1) (lookup (is_at (C q)) rs))) [
        | Less ↦ λ e. lookup_past q r.0 k r.1 (flat rs) (ap is_eq e) ∙ rest
        | Equal ↦ λ e. lookup_here q r.0 k r.1 (flat rs) e
            ∙ ap (option_or (lookup (is_at (R k)) r.1)) (rest ∙ ap (option_and_then (lookup (is_at (R k)))) (none_later q r rs s e))
            ∙ or_none (lookup (is_at (R k)) r.1)
        | Greater ↦ λ e. lookup_past q r.0 k r.1 (flat rs) (ap is_eq e) ∙ rest
      ] refl

  -- ---- putting in
  pub insert_first : (s : List ℕ) (k : K) (v : V) (rs : List (List ℕ × List (K × V))) → AllByRecursion (λ q. C s q ≡ Less) (keys_of rs) → insert_entry (pair_cmp R) (flat rs) (s, k) v ≡ ((s, k), v) ∷ flat rs
  insert_first s k v [] h = refl
  insert_first s k v ((q, []) ∷ rs) h = insert_first s k v rs h.1
  insert_first s k v ((q, e ∷ es) ∷ rs) h =
      ap (λ o. match_ordering (ordering_then o (R k e.0)) (((s, k), v) ∷ flat ((q, e ∷ es) ∷ rs)) (((q, e.0), v) ∷ (under q es ++ flat rs)) (((q, e.0), e.1) ∷ insert_entry (pair_cmp R) (under q es ++ flat rs) (s, k) v)) h.0

  insert_here : (s : List ℕ) (k : K) (v : V) (row : List (K × V)) (rs : List (List ℕ × List (K × V))) → AllByRecursion (λ q. C s q ≡ Less) (keys_of rs)
      → under s (insert_entry R row k v) ++ flat rs ≡ insert_entry (pair_cmp R) (under s row ++ flat rs) (s, k) v
  insert_here s k v [] rs h = sym (insert_first s k v rs h)
  insert_here s k v (e ∷ es) rs h =
      let xs = under s es ++ flat rs in
      elim (R k e.0) as (λ o. under s (match_ordering o ((k, v) ∷ e ∷ es) ((e.0, v) ∷ es) (e ∷ insert_entry R es k v)) ++ flat rs
      ≡ match_ordering o (((s, k), v) ∷ ((s, e.0), e.1) ∷ xs) (((s, e.0), v) ∷ xs) (((s, e.0), e.1) ∷ insert_entry (pair_cmp R) xs (s, k) v)) [
        | Less ↦ refl
        | Equal ↦ refl
        | Greater ↦ ap (λ ys. ((s, e.0), e.1) ∷ ys) (insert_here s k v es rs h)
      ] ∙ ap (λ o. match_ordering o (((s, k), v) ∷ ((s, e.0), e.1) ∷ xs) (((s, e.0), v) ∷ xs) (((s, e.0), e.1) ∷ insert_entry (pair_cmp R) xs (s, k) v)) (sym (then_tied (C s s) (R k e.0) (tied_itself c_total s)))

  pub insert_past : (at q : List ℕ) (k : K) (v : V) (row : List (K × V)) (xs : List ((List ℕ × K) × V)) → C at q ≡ Greater → insert_entry (pair_cmp R) (under q row ++ xs) (at, k) v ≡ under q row ++ insert_entry (pair_cmp R) xs (at, k) v
  insert_past at q k v [] xs h = refl
  insert_past at q k v (e ∷ es) xs h =
      let ys = under q es ++ xs in
      ap (λ o. match_ordering (ordering_then o (R k e.0)) (((at, k), v) ∷ ((q, e.0), e.1) ∷ ys) (((q, e.0), v) ∷ ys) (((q, e.0), e.1) ∷ insert_entry (pair_cmp R) ys (at, k) v)) h
      ∙ ap (λ zs. ((q, e.0), e.1) ∷ zs) (insert_past at q k v es xs h)

  -- what is put into a row is put into the table
  pub insert-flat : (at : List ℕ) (k : K) (v : V) (row : List (K × V)) (rs : List (List ℕ × List (K × V))) → IsStrictlySortedBy C (keys_of rs) → lookup (is_at (C at)) rs ≡ Some row
      → flat (set_value (is_at (C at)) rs (insert_entry R row k v)) ≡ insert_entry (pair_cmp R) (flat rs) (at, k) v
  insert-flat at k v row [] s h = absurd (none-some row h)
  insert-flat at k v row (r ∷ rs) s h =
      let new = insert_entry R row k v in
      elim (C at r.0) as (λ o. C at r.0 ≡ o → cond (is_eq o) (Some r.1) (lookup (is_at (C at)) rs) ≡ Some row
      → flat (cond (is_eq o) ((r.0, new) ∷ rs) (r ∷ set_value (is_at (C at)) rs new)) ≡ insert_entry (pair_cmp R) (under r.0 r.1 ++ flat rs) (at, k) v) [
        | Less ↦ λ e i. absurd (none-some row (sym (none_below at r rs s e) ∙ h))
        | Equal ↦ λ e i.
            let same : at ≡ r.0 = exact_bytes at r.0 e in
            ap (λ (xs : List (K × V)). under r.0 (insert_entry R xs k v) ++ flat rs) (sym (same_Some r.1 row i))
            ∙ insert_here r.0 k v r.1 rs (sorted_head C r.0 (keys_of rs) s)
            ∙ ap (λ t. insert_entry (pair_cmp R) (under r.0 r.1 ++ flat rs) (t, k) v) (sym same)
        | Greater ↦ λ e i.
            ap (λ xs. under r.0 r.1 ++ xs) (insert-flat at k v row rs (sorted_tail C r.0 (keys_of rs) s) i)
            ∙ sym (insert_past at r.0 k v r.1 (flat rs) e)
      ] refl h

  -- a row without entries is as none
  pub close-flat : (at : List ℕ) (rs : List (List ℕ × List (K × V))) → lookup (is_at (C at)) rs ≡ Some [] → flat (remove_entry (is_at (C at)) rs) ≡ flat rs
  close-flat at [] h = absurd (none-some [] h)
  close-flat at (r ∷ rs) h =
      elim (is_eq (C at r.0)) as (λ b. cond b (Some r.1) (lookup (is_at (C at)) rs) ≡ Some [] → flat (cond b rs (r ∷ remove_entry (is_at (C at)) rs)) ≡ under r.0 r.1 ++ flat rs) [
        | true ↦ λ i. ap (λ (xs : List (K × V)). under r.0 xs ++ flat rs) (sym (same_Some r.1 [] i))
        | false ↦ λ i. ap (λ xs. under r.0 r.1 ++ xs) (close-flat at rs i)
      ] h

  -- ---- taking out
  remove_past : (at q : List ℕ) (k : K) (row : List (K × V)) (xs : List ((List ℕ × K) × V)) → is_eq (C at q) ≡ false
      → remove_entry (is_at ((pair_cmp R) (at, k))) (under q row ++ xs) ≡ under q row ++ remove_entry (is_at ((pair_cmp R) (at, k))) xs
  remove_past at q k [] xs h = refl
  remove_past at q k (e ∷ es) xs h =
      ap (λ b. cond b (under q es ++ xs) (((q, e.0), e.1) ∷ remove_entry (is_at ((pair_cmp R) (at, k))) (under q es ++ xs))) (then_apart (C at q) (R k e.0) h)
      ∙ ap (λ ys. ((q, e.0), e.1) ∷ ys) (remove_past at q k es xs h)

  remove_none : (s : List ℕ) (k : K) (rs : List (List ℕ × List (K × V))) → AllByRecursion (λ q. C s q ≡ Less) (keys_of rs) → remove_entry (is_at ((pair_cmp R) (s, k))) (flat rs) ≡ flat rs
  remove_none s k [] h = refl
  remove_none s k (r ∷ rs) h = remove_past s r.0 k r.1 (flat rs) (ap is_eq h.0) ∙ ap (λ xs. under r.0 r.1 ++ xs) (remove_none s k rs h.1)

  remove_here : (s : List ℕ) (k : K) (row : List (K × V)) (rs : List (List ℕ × List (K × V))) → AllByRecursion (λ q. C s q ≡ Less) (keys_of rs)
      → under s (remove_entry (is_at (R k)) row) ++ flat rs ≡ remove_entry (is_at ((pair_cmp R) (s, k))) (under s row ++ flat rs)
  remove_here s k [] rs h = sym (remove_none s k rs h)
  remove_here s k (e ∷ es) rs h =
      let xs = under s es ++ flat rs in
      elim (is_eq (R k e.0)) as (λ b. under s (cond b es (e ∷ remove_entry (is_at (R k)) es)) ++ flat rs ≡ cond b xs (((s, e.0), e.1) ∷ remove_entry (is_at ((pair_cmp R) (s, k))) xs)) [
        | true ↦ refl
        | false ↦ ap (λ ys. ((s, e.0), e.1) ∷ ys) (remove_here s k es rs h)
      ] ∙ ap (λ o. cond (is_eq o) xs (((s, e.0), e.1) ∷ remove_entry (is_at ((pair_cmp R) (s, k))) xs)) (sym (then_tied (C s s) (R k e.0) (tied_itself c_total s)))

  -- what is taken out of a row is taken out of the table
  pub remove-flat : (at : List ℕ) (k : K) (row : List (K × V)) (rs : List (List ℕ × List (K × V))) → IsStrictlySortedBy C (keys_of rs) → lookup (is_at (C at)) rs ≡ Some row
      → flat (set_value (is_at (C at)) rs (remove_entry (is_at (R k)) row)) ≡ remove_entry (is_at ((pair_cmp R) (at, k))) (flat rs)
  remove-flat at k row [] s h = absurd (none-some row h)
  remove-flat at k row (r ∷ rs) s h =
      let new = remove_entry (is_at (R k)) row in
      let past : is_eq (C at r.0) ≡ false → cond (is_eq (C at r.0)) (Some r.1) (lookup (is_at (C at)) rs) ≡ Some row → under r.0 r.1 ++ flat (set_value (is_at (C at)) rs new) ≡ remove_entry (is_at ((pair_cmp R) (at, k))) (under r.0 r.1 ++ flat rs) = λ e i.
      ap (λ xs. under r.0 r.1 ++ xs) (remove-flat at k row rs (sorted_tail C r.0 (keys_of rs) s) (sym (ap (λ b. cond b (Some r.1) (lookup (is_at (C at)) rs)) e) ∙ i))
      ∙ sym (remove_past at r.0 k r.1 (flat rs) e) in
      elim (C at r.0) as (λ o. C at r.0 ≡ o → cond (is_eq o) (Some r.1) (lookup (is_at (C at)) rs) ≡ Some row
      → flat (cond (is_eq o) ((r.0, new) ∷ rs) (r ∷ set_value (is_at (C at)) rs new)) ≡ remove_entry (is_at ((pair_cmp R) (at, k))) (under r.0 r.1 ++ flat rs)) [
        | Less ↦ λ e i. past (ap is_eq e) h
        | Equal ↦ λ e i.
            let same : at ≡ r.0 = exact_bytes at r.0 e in
            ap (λ (xs : List (K × V)). under r.0 (remove_entry (is_at (R k)) xs) ++ flat rs) (sym (same_Some r.1 row i))
            ∙ remove_here r.0 k r.1 rs (sorted_head C r.0 (keys_of rs) s)
            ∙ ap (λ t. remove_entry (is_at ((pair_cmp R) (t, k))) (under r.0 r.1 ++ flat rs)) (sym same)
        | Greater ↦ λ e i. past (ap is_eq e) h
      ] refl h

  -- ---- writing over
  set_past : (at q : List ℕ) (k : K) (v : V) (row : List (K × V)) (xs : List ((List ℕ × K) × V)) → is_eq (C at q) ≡ false
      → set_value (is_at (pair_cmp R (at, k))) (under q row ++ xs) v ≡ under q row ++ set_value (is_at (pair_cmp R (at, k))) xs v
  set_past at q k v [] xs h = refl
  set_past at q k v (e ∷ es) xs h =
      ap (λ b. cond b (((q, e.0), v) ∷ (under q es ++ xs)) (((q, e.0), e.1) ∷ set_value (is_at (pair_cmp R (at, k))) (under q es ++ xs) v)) (then_apart (C at q) (R k e.0) h)
      ∙ ap (λ ys. ((q, e.0), e.1) ∷ ys) (set_past at q k v es xs h)

  set_none : (s : List ℕ) (k : K) (v : V) (rs : List (List ℕ × List (K × V))) → AllByRecursion (λ q. C s q ≡ Less) (keys_of rs) → set_value (is_at (pair_cmp R (s, k))) (flat rs) v ≡ flat rs
  set_none s k v [] h = refl
  set_none s k v (r ∷ rs) h = set_past s r.0 k v r.1 (flat rs) (ap is_eq h.0) ∙ ap (λ xs. under r.0 r.1 ++ xs) (set_none s k v rs h.1)

  set_here : (s : List ℕ) (k : K) (v : V) (row : List (K × V)) (rs : List (List ℕ × List (K × V))) → AllByRecursion (λ q. C s q ≡ Less) (keys_of rs)
      → under s (set_value (is_at (R k)) row v) ++ flat rs ≡ set_value (is_at (pair_cmp R (s, k))) (under s row ++ flat rs) v
  set_here s k v [] rs h = sym (set_none s k v rs h)
  set_here s k v (e ∷ es) rs h =
      let xs = under s es ++ flat rs in
      elim (is_eq (R k e.0)) as (λ b. under s (cond b ((e.0, v) ∷ es) (e ∷ set_value (is_at (R k)) es v)) ++ flat rs ≡ cond b (((s, e.0), v) ∷ xs) (((s, e.0), e.1) ∷ set_value (is_at (pair_cmp R (s, k))) xs v)) [
        | true ↦ refl
        | false ↦ ap (λ ys. ((s, e.0), e.1) ∷ ys) (set_here s k v es rs h)
      ] ∙ ap (λ o. cond (is_eq o) (((s, e.0), v) ∷ xs) (((s, e.0), e.1) ∷ set_value (is_at (pair_cmp R (s, k))) xs v)) (sym (then_tied (C s s) (R k e.0) (tied_itself c_total s)))

  -- what is written over in a row is written over in the table
  pub set-flat : (at : List ℕ) (k : K) (v : V) (row : List (K × V)) (rs : List (List ℕ × List (K × V))) → IsStrictlySortedBy C (keys_of rs) → lookup (is_at (C at)) rs ≡ Some row
      → flat (set_value (is_at (C at)) rs (set_value (is_at (R k)) row v)) ≡ set_value (is_at (pair_cmp R (at, k))) (flat rs) v
  set-flat at k v row [] s h = absurd (none-some row h)
  set-flat at k v row (r ∷ rs) s h =
      let new = set_value (is_at (R k)) row v in
      let past : is_eq (C at r.0) ≡ false → cond (is_eq (C at r.0)) (Some r.1) (lookup (is_at (C at)) rs) ≡ Some row → under r.0 r.1 ++ flat (set_value (is_at (C at)) rs new) ≡ set_value (is_at (pair_cmp R (at, k))) (under r.0 r.1 ++ flat rs) v = λ e i.
      ap (λ xs. under r.0 r.1 ++ xs) (set-flat at k v row rs (sorted_tail C r.0 (keys_of rs) s) (sym (ap (λ b. cond b (Some r.1) (lookup (is_at (C at)) rs)) e) ∙ i))
      ∙ sym (set_past at r.0 k v r.1 (flat rs) e) in
      elim (C at r.0) as (λ o. C at r.0 ≡ o → cond (is_eq o) (Some r.1) (lookup (is_at (C at)) rs) ≡ Some row
      → flat (cond (is_eq o) ((r.0, new) ∷ rs) (r ∷ set_value (is_at (C at)) rs new)) ≡ set_value (is_at (pair_cmp R (at, k))) (under r.0 r.1 ++ flat rs) v) [
        | Less ↦ λ e i. past (ap is_eq e) h
        | Equal ↦ λ e i.
            let same : at ≡ r.0 = exact_bytes at r.0 e in
            ap (λ (xs : List (K × V)). under r.0 (set_value (is_at (R k)) xs v) ++ flat rs) (sym (same_Some r.1 row i))
            ∙ set_here r.0 k v r.1 rs (sorted_head C r.0 (keys_of rs) s)
            ∙ ap (λ t. set_value (is_at (pair_cmp R (t, k))) (under r.0 r.1 ++ flat rs) v) (sym same)
        | Greater ↦ λ e i. past (ap is_eq e) h
      ] refl h

  -- no row, nothing to take out
  pub remove-absent : (at : List ℕ) (k : K) (rs : List (List ℕ × List (K × V))) → lookup (is_at (C at)) rs ≡ None → remove_entry (is_at ((pair_cmp R) (at, k))) (flat rs) ≡ flat rs
  remove-absent at k [] h = refl
  remove-absent at k (r ∷ rs) h =
      elim (is_eq (C at r.0)) as (λ b. is_eq (C at r.0) ≡ b → cond b (Some r.1) (lookup (is_at (C at)) rs) ≡ None → remove_entry (is_at ((pair_cmp R) (at, k))) (under r.0 r.1 ++ flat rs) ≡ under r.0 r.1 ++ flat rs) [
        | true ↦ λ e i. absurd (none-some r.1 (sym i))
        | false ↦ λ e i. remove_past at r.0 k r.1 (flat rs) e ∙ ap (λ xs. under r.0 r.1 ++ xs) (remove-absent at k rs i)
      ] refl h

  -- what the table has at a pair, where the row is found, and where it is not
  pub found : (q : List ℕ) (k : K) (rs : List (List ℕ × List (K × V))) (row : List (K × V)) (now : List ((List ℕ × K) × V)) → IsStrictlySortedBy C (keys_of rs) → flat rs ≡ now → lookup (is_at (C q)) rs ≡ Some row
      → lookup (is_at (R k)) row ≡ lookup (is_at (pair_cmp R (q, k))) now
  found q k rs row now s v h = sym (ap (option_and_then (lookup (is_at (R k)))) h) ∙ sym (lookup-flat q k rs s) ∙ ap (lookup (is_at (pair_cmp R (q, k)))) v

  pub missed : (q : List ℕ) (k : K) (rs : List (List ℕ × List (K × V))) (now : List ((List ℕ × K) × V)) → IsStrictlySortedBy C (keys_of rs) → flat rs ≡ now → lookup (is_at (C q)) rs ≡ None
      → None ≡ lookup (is_at (pair_cmp R (q, k))) now
  missed q k rs now s v h = sym (ap (option_and_then (lookup (is_at (R k)))) h) ∙ sym (lookup-flat q k rs s) ∙ ap (lookup (is_at (pair_cmp R (q, k)))) v
