-- Twins under their own ids: look-ups, order and sums, by the entries and by the list.
use Rattle.std.proofs.Common.{◌≡◌, ℕ, ◌+◌, List, [], ◌∷◌, true, false, cond, Some, unwrap_or, refl, sym, ap, ◌∙◌, subst, is_eq}
use Rattle.std.specs.Option.{option_map}
use Rattle.std.specs.List.Sorted.{IsStrictlySortedBy}
use Rattle.std.specs.Map.{remove_entry, keys_of, values_of}
use Rattle.std.specs.BTreeMap.{is_at, insert_entry}
use Rattle.std.proofs.lemmas.Map.Entries.{sum_by-insert_entry, sum_by-remove_entry}
use Rattle.std.proofs.lemmas.Map.Lookups.{exact_bytes}
use Rattle.std.proofs.lemmas.Option.{same_Some, none-some}
use Rattle.ordered_table.proofs.Flat.{C, c_total}
use Rattle.ordered_table.proofs.Ordered.{unlike}
use Rattle.graph_steps.specs.declared.twins.held.Held.{Held}
use Rattle.graph_steps.specs.twins.Held.{id_of, twins_by_id, TwinsInOrder, held_at, held_twin_at, with_held, without_held, total_bytes}
use Rattle.graph_steps.specs.twins.Machinery.Keeping.{held_under}
use Rattle.graph_steps.proofs.twins.Keyed.{keys-keyed, lookup-keyed}

module _ (entries : List (List ℕ × Held)) (hs : List Held) (own : entries ≡ twins_by_id (values_of entries)) (seen : values_of entries ≡ hs) where
  pub entries-keyed : entries ≡ twins_by_id hs
  entries-keyed = own ∙ ap twins_by_id seen

  pub under-held_at : (id : List ℕ) → held_under entries id ≡ held_at id hs
  under-held_at id = ap (λ es. held_under es id) entries-keyed ∙ lookup-keyed id_of id hs

  pub under-twin_at : (id : List ℕ) → option_map (λ h. h.twin) (held_under entries id) ≡ held_twin_at id hs
  under-twin_at id = ap (option_map (λ (h : Held). h.twin)) (under-held_at id)

  pub in_order : IsStrictlySortedBy C (keys_of entries) → TwinsInOrder hs
  in_order s = subst (IsStrictlySortedBy C) (ap keys_of entries-keyed ∙ keys-keyed id_of hs) s

  pub values-inserted : (h : Held) → values_of (insert_entry C entries (id_of h) h) ≡ with_held h hs
  values-inserted h = ap (λ es. values_of (insert_entry C es (id_of h) h)) entries-keyed

  pub values-removed : (id : List ℕ) → values_of (remove_entry (is_at (C id)) entries) ≡ without_held id hs
  values-removed id = ap (λ es. values_of (remove_entry (is_at (C id)) es)) entries-keyed

-- what is under an id has this id
own-keyed : (hs : List Held) (q : List ℕ) (h : Held) → held_under (twins_by_id hs) q ≡ Some h → id_of h ≡ q
own-keyed [] q h p = absurd (none-some h p)
own-keyed (j ∷ js) q h p =
    elim (is_eq (C q (id_of j))) as (λ b. is_eq (C q (id_of j)) ≡ b → cond b (Some j) (held_under (twins_by_id js) q) ≡ Some h → id_of h ≡ q) [
      | true ↦ λ t i. sym (exact_bytes q (id_of j) (unlike (C q (id_of j)) t) ∙ ap id_of (same_Some j h i))
      | false ↦ λ t i. own-keyed js q h i
    ] refl p

pub own_id : (entries : List (List ℕ × Held)) → entries ≡ twins_by_id (values_of entries) → (q : List ℕ) (h : Held) → held_under entries q ≡ Some h → id_of h ≡ q
own_id entries own q h p = own-keyed (values_of entries) q h (ap (λ es. held_under es q) (sym own) ∙ p)

-- the sum with one in and with one out
pub total-inserted : (entries : List (List ℕ × Held)) (id : List ℕ) (h : Held) → IsStrictlySortedBy C (keys_of entries)
    → total_bytes (values_of (insert_entry C entries id h)) + unwrap_or (option_map (λ x. x.bytes) (held_under entries id)) 0 ≡ total_bytes (values_of entries) + h.bytes
total-inserted entries id h s = sum_by-insert_entry (λ (x : Held). x.bytes) c_total entries id h s

pub total-removed : (entries : List (List ℕ × Held)) (id : List ℕ)
    → total_bytes (values_of (remove_entry (is_at (C id)) entries)) + unwrap_or (option_map (λ x. x.bytes) (held_under entries id)) 0 ≡ total_bytes (values_of entries)
total-removed entries id = sum_by-remove_entry (λ (x : Held). x.bytes) (is_at (C id)) entries
