-- Lists of what has an id, each under its own.
use Rattle.std.proofs.Common.{◌≡◌, ℕ, List, [], ◌∷◌, map, Bool, true, false, cond, Some, None, length, refl, sym, ap, ◌∙◌, Less, Equal, Greater, is_eq, subst}
use Rattle.std.specs.Prelude.{bytes_eq}
use Rattle.std.specs.Ordering.{match_ordering}
use Rattle.std.specs.List.{filter, find}
use Rattle.std.specs.List.Sorted.{IsStrictlySortedBy}
use Rattle.std.specs.Map.{lookup, remove_entry, set_value, keys_of, values_of}
use Rattle.std.specs.Option.{IsSome}
use Rattle.std.specs.BTreeMap.{is_at, insert_entry}
use Rattle.std.proofs.lemmas.Cmp.{eq_by_cmp_equiv}
use Rattle.std.proofs.lemmas.Option.{none-some}
use Rattle.std.proofs.lemmas.Map.{keys-set_value, length-set_value}
use Rattle.std.proofs.lemmas.Map.Lookups.{exact_bytes}
use Rattle.std.proofs.lemmas.Map.Steps.{set_value_same}
use Rattle.std.proofs.lemmas.Map.Text.{is_eq-slice_cmp}
use Rattle.ordered_table.proofs.Flat.{C, c_total}
use Rattle.ordered_table.proofs.Ordered.{lookup-insert}
use Rattle.ordered_table.proofs.Kept.{same_by_lookups, sorted-insert, lookup-set}

-- the test of an id, from either side
pub same_test : (id other : List ℕ) → is_eq (C id other) ≡ bytes_eq other id
same_test id other = (eq_by_cmp_equiv c_total).symm id other ∙ is_eq-slice_cmp other id

module _ {T : Type 0} (key : T → List ℕ) where
  abbrev pub keyed_by : List T → List (List ℕ × T)
  keyed_by ts = map (λ t. (key t, t)) ts

  pub values-keyed : (ts : List T) → values_of (keyed_by ts) ≡ ts
  values-keyed [] = refl
  values-keyed (t ∷ ts) = ap (λ us. t ∷ us) (values-keyed ts)

  pub keys-keyed : (ts : List T) → keys_of (keyed_by ts) ≡ map key ts
  keys-keyed [] = refl
  keys-keyed (t ∷ ts) = ap (λ ks. key t ∷ ks) (keys-keyed ts)

  -- what is put under its own id keeps each under its own
  pub insert-keyed : (t : T) (ts : List T) → insert_entry C (keyed_by ts) (key t) t ≡ keyed_by (values_of (insert_entry C (keyed_by ts) (key t) t))
  insert-keyed t [] = refl
  insert-keyed t (u ∷ us) =
      elim (C (key t) (key u)) as (λ o. C (key t) (key u) ≡ o
      → match_ordering o ((key t, t) ∷ (key u, u) ∷ keyed_by us) ((key u, t) ∷ keyed_by us) ((key u, u) ∷ insert_entry C (keyed_by us) (key t) t)
      ≡ keyed_by (values_of (match_ordering o ((key t, t) ∷ (key u, u) ∷ keyed_by us) ((key u, t) ∷ keyed_by us) ((key u, u) ∷ insert_entry C (keyed_by us) (key t) t)))) [
        | Less ↦ λ h. ap (λ vs. (key t, t) ∷ (key u, u) ∷ keyed_by vs) (sym (values-keyed us))
        | Equal ↦ λ h. ap (λ k. (k, t) ∷ keyed_by us) (sym (exact_bytes (key t) (key u) h)) ∙ ap (λ vs. (key t, t) ∷ keyed_by vs) (sym (values-keyed us))
        | Greater ↦ λ h. ap (λ es. (key u, u) ∷ es) (insert-keyed t us)
      ] refl

  pub remove-keyed : (test : List ℕ → Bool) (ts : List T) → remove_entry test (keyed_by ts) ≡ keyed_by (values_of (remove_entry test (keyed_by ts)))
  remove-keyed test [] = refl
  remove-keyed test (t ∷ ts) =
      elim (test (key t)) as (λ b. cond b (keyed_by ts) ((key t, t) ∷ remove_entry test (keyed_by ts)) ≡ keyed_by (values_of (cond b (keyed_by ts) ((key t, t) ∷ remove_entry test (keyed_by ts))))) [
        | true ↦ ap keyed_by (sym (values-keyed ts))
        | false ↦ ap (λ es. (key t, t) ∷ es) (remove-keyed test ts)
      ]

  -- a look-up finds the one with the id
  pub lookup-keyed : (id : List ℕ) (ts : List T) → lookup (is_at (C id)) (keyed_by ts) ≡ find (λ t. bytes_eq (key t) id) ts
  lookup-keyed id [] = refl
  lookup-keyed id (t ∷ ts) =
      ap (λ b. cond b (Some t) (lookup (is_at (C id)) (keyed_by ts))) (same_test id (key t))
      ∙ ap (cond (bytes_eq (key t) id) (Some t)) (lookup-keyed id ts)

  pub filter-keyed : (p : List ℕ → Bool) (ts : List T) → values_of (filter (λ e. p e.0) (keyed_by ts)) ≡ filter (λ t. p (key t)) ts
  filter-keyed p [] = refl
  filter-keyed p (t ∷ ts) =
      elim (p (key t)) as (λ b. values_of (cond b ((key t, t) ∷ filter (λ (e : List ℕ × T). p e.0) (keyed_by ts)) (filter (λ (e : List ℕ × T). p e.0) (keyed_by ts))) ≡ cond b (t ∷ filter (λ u. p (key u)) ts) (filter (λ u. p (key u)) ts)) [
        | true ↦ ap (λ us. t ∷ us) (filter-keyed p ts)
        | false ↦ filter-keyed p ts
      ]

-- what is written over a value at its key is put at its place
pub set-insert : {T : Type 0} (id : List ℕ) (old new : T) (es : List (List ℕ × T)) → IsStrictlySortedBy C (keys_of es) → lookup (is_at (C id)) es ≡ Some old
    → set_value (is_at (C id)) es new ≡ insert_entry C es id new
set-insert id old new es sorted there =
    same_by_lookups c_total exact_bytes (set_value (is_at (C id)) es new) (insert_entry C es id new)
    (subst (IsStrictlySortedBy C) (sym (keys-set_value (is_at (C id)) es new)) sorted)
    (sorted-insert c_total id new es sorted)
    (λ q. lookup-set c_total q id new es (subst IsSome (sym there) refl) ∙ sym (lookup-insert c_total q id new es))

-- so that what was there, written at its key, changes nothing
pub insert-same : {T : Type 0} (id : List ℕ) (old : T) (es : List (List ℕ × T)) → IsStrictlySortedBy C (keys_of es) → lookup (is_at (C id)) es ≡ Some old
    → insert_entry C es id old ≡ es
insert-same id old es sorted there = sym (set-insert id old old es sorted there) ∙ set_value_same (is_at (C id)) es old there

-- and there are as many
pub length-over : {T : Type 0} (id : List ℕ) (old new : T) (es : List (List ℕ × T)) → IsStrictlySortedBy C (keys_of es) → lookup (is_at (C id)) es ≡ Some old
    → length (insert_entry C es id new) ≡ length es
length-over id old new es sorted there = ap length (sym (set-insert id old new es sorted there)) ∙ length-set_value (is_at (C id)) es new

-- where none is found, none is taken out
pub remove-none : {K X : Type 0} (test : K → Bool) (es : List (K × X)) → lookup test es ≡ None → remove_entry test es ≡ es
remove-none test [] h = refl
remove-none test (e ∷ es) h =
    elim (test e.0) as (λ b. cond b (Some e.1) (lookup test es) ≡ None → cond b es (e ∷ remove_entry test es) ≡ e ∷ es) [
      | true ↦ λ p. absurd (none-some e.1 (sym p))
      | false ↦ λ p. ap (λ rs. e ∷ rs) (remove-none test es p)
    ] h
