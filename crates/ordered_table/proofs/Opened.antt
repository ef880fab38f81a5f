-- A row of one entry that is made where there was none.
use Rattle.std.proofs.Common.{◌≡◌, ℕ, List, [], ◌∷◌, ◌++◌, cond, Some, None, refl, sym, ap, ◌∙◌, Ordering, Less, Equal, Greater, is_eq}
use Rattle.std.specs.Ordering.{match_ordering}
use Rattle.std.specs.List.Sorted.{IsStrictlySortedBy}
use Rattle.std.specs.Map.{lookup, keys_of}
use Rattle.std.specs.BTreeMap.{is_at, insert_entry}
use Rattle.std.proofs.lemmas.Option.{none-some}
use Rattle.std.proofs.lemmas.Map.Keys.{sorted_head, sorted_tail}
use Rattle.ordered_table.specs.Rows.{pair_cmp, under, flat}
use Rattle.ordered_table.proofs.Flat.{C, c_total, insert_first, insert_past}
use Rattle.ordered_table.proofs.Kept.{all_less}

module _ {K V : Type 0} (R : K → K → Ordering) where
  pub open-flat : (at : List ℕ) (k : K) (v : V) (rs : List (List ℕ × List (K × V))) → IsStrictlySortedBy C (keys_of rs) → lookup (is_at (C at)) rs ≡ None
      → flat (insert_entry C rs at ((k, v) ∷ [])) ≡ insert_entry (pair_cmp R) (flat rs) (at, k) v
  open-flat at k v [] s h = refl
  open-flat at k v (r ∷ rs) s h =
      elim (C at r.0) as (λ o. C at r.0 ≡ o → cond (is_eq o) (Some r.1) (lookup (is_at (C at)) rs) ≡ None
      → flat (match_ordering o ((at, (k, v) ∷ []) ∷ r ∷ rs) ((r.0, (k, v) ∷ []) ∷ rs) (r ∷ insert_entry C rs at ((k, v) ∷ []))) ≡ insert_entry (pair_cmp R) (under r.0 r.1 ++ flat rs) (at, k) v) [
        | Less ↦ λ e i. sym (insert_first R at k v (r ∷ rs) (e, all_less c_total at r.0 e (keys_of rs) (sorted_head C r.0 (keys_of rs) s)))
        | Equal ↦ λ e i. absurd (none-some r.1 (sym i))
        | Greater ↦ λ e i.
            ap (λ xs. under r.0 r.1 ++ xs) (open-flat at k v rs (sorted_tail C r.0 (keys_of rs) s) i)
            ∙ sym (insert_past R at r.0 k v r.1 (flat rs) e)
      ] refl h
