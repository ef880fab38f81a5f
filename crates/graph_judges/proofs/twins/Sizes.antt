-- How many twins there are with one that comes, and how many bytes their texts have.
use Rattle.std.proofs.Common.{◌≡◌, ℕ, ◌+◌, ◌-◌, ◌<◌, ◌≤◌, inl, inr, List, [], ◌∷◌, length, cond, Option, Some, None, unwrap_or, refl, sym, ap, ◌∙◌, is_eq, arith}
use Rattle.std.specs.Option.{option_map}
use Rattle.std.specs.List.{find, sum_by}
use Rattle.std.specs.Map.{lookup, values_of}
use Rattle.std.specs.BTreeMap.{is_at}
use Rattle.std.proofs.lemmas.List.Sums.{sum-map, sum_by-cons}
use Rattle.std.proofs.lemmas.Map.Entries.{sum_by-insert_entry, sum_by-remove_entry}
use Rattle.ordered_table.proofs.Flat.{C, c_total}
use Rattle.graph_steps.specs.States.{State, Twin, twin_at, twin_text, graph_bytes, keyed_twins, with_twin}
use Rattle.dtdl_terms.specs.declared.limit.Limit.TheVariants as limits
use Rattle.graph_asks.specs.declared.refusal.Refusal.TheVariants as refusals
use Rattle.graph_steps.specs.TwinAsks.{TwinFull}
use Rattle.graph_steps.specs.Typed.{WellTyped}
use Rattle.graph_steps.specs.held.Judged.{Unrefused}
use Rattle.graph_steps.proofs.invariants.Keyed.{tests, values-entries, sorted-keys}
use Rattle.std.specs.Prelude.{bytes_eq}

abbrev id_of : Twin → List ℕ
id_of t = t.id

found_twin : (id : List ℕ) (ts : List Twin) → find (λ (t : Twin). bytes_eq t.id id) ts ≡ lookup (is_at (C id)) (keyed_twins ts)
found_twin id [] = refl
found_twin id (t ∷ ts) =
    ap (λ b. cond b (Some t) (find (λ (u : Twin). bytes_eq u.id id) ts)) (sym (tests id t.id)) ∙ ap (λ o. cond (is_eq (C id t.id)) (Some t) o) (found_twin id ts)

-- What the one in whose place a twin comes has of this, 0 where there is none.
abbrev pub before : (Twin → ℕ) → List ℕ → State → ℕ
before f id s = unwrap_or (option_map f (twin_at id s)) 0

module _ (s : State) (w : WellTyped s) (f : Twin → ℕ) where
  pub sum_with : (t : Twin) → sum_by f (with_twin t s).twins + before f t.id s ≡ sum_by f s.twins + f t
  sum_with t =
      ap (λ o. sum_by f (with_twin t s).twins + unwrap_or (option_map f o) 0) (found_twin t.id s.twins)
      ∙ sum_by-insert_entry f c_total (keyed_twins s.twins) t.id t (sorted-keys id_of C s.twins w.twins)
      ∙ ap (λ ts. sum_by f ts + f t) (values-entries id_of s.twins)

  pub before_within : (id : List ℕ) → before f id s ≤ sum_by f s.twins
  before_within id =
      let gone = sum_by-remove_entry f (is_at (C id)) (keyed_twins s.twins) in
      let all : sum_by f (values_of (keyed_twins s.twins)) ≡ sum_by f s.twins = ap (sum_by f) (values-entries id_of s.twins) in
      let one : before f id s ≡ unwrap_or (option_map f (lookup (is_at (C id)) (keyed_twins s.twins))) 0 = ap (λ o. unwrap_or (option_map f o) 0) (found_twin id s.twins) in
      omega (arith, gone, all, one)

-- ---- how many
abbrev one : Twin → ℕ
one t = 1

counted : (ts : List Twin) → sum_by one ts ≡ length ts
counted [] = refl
counted (t ∷ ts) =
    let later = counted ts in
    let first : sum_by one (t ∷ ts) ≡ 1 + sum_by one ts = sum_by-cons one t ts in
    omega (arith, first, later)

module _ (s : State) (w : WellTyped s) (t : Twin) where
  count_with : length (with_twin t s).twins + before one t.id s ≡ length s.twins + 1
  count_with =
      let all = sum_with s w one t in
      let new = counted (with_twin t s).twins in
      let old = counted s.twins in
      omega (arith, all, new, old)

  pub same_count : (u : Twin) → Some u ≡ twin_at t.id s → length s.twins ≡ length (with_twin t s).twins
  same_count u found =
      let had : before one t.id s ≡ 1 = sym (ap (λ o. unwrap_or (option_map one o) 0) found) in
      let all = count_with in
      omega (arith, had, all)

  pub more_count : None ≡ twin_at t.id s → length s.twins + 1 ≡ length (with_twin t s).twins
  more_count none =
      let had : before one t.id s ≡ 0 = sym (ap (λ o. unwrap_or (option_map one o) 0) none) in
      let all = count_with in
      omega (arith, had, all)

-- ---- how many bytes
abbrev pub size : Twin → ℕ
size t = length (twin_text t)

module _ (s : State) (w : WellTyped s) where
  pub bytes_within : (id : List ℕ) → before size id s ≤ graph_bytes s
  bytes_within id =
      let one = before_within s w size id in
      let all = sum-map size s.twins in
      omega (arith, one, all)

  pub bytes_with : (t : Twin) → graph_bytes s - before size t.id s + size t ≡ graph_bytes (with_twin t s)
  bytes_with t =
      let one = before_within s w size t.id in
      let all = sum_with s w size t in
      let old = sum-map size s.twins in
      let new = sum-map size (with_twin t s).twins in
      omega (arith, one, all, old, new)

-- ---- limits
module _ (new : State) (t : Twin) (small : length (twin_text t) ≤ 32768) where
  pub over_twins : 100000 < length new.twins → TwinFull new t (refusals.Full limits.Twins)
  over_twins many = inr ((λ q h. omega (arith, small, h.0)), inl (many, refl))

  module _ (few : length new.twins ≤ 100000) where
    pub over_bytes : 268435456 < graph_bytes new → TwinFull new t (refusals.Full limits.GraphBytes)
    over_bytes many = inr ((λ q h. omega (arith, small, h.0)), inr ((λ q h. omega (arith, few, h.0)), (many, refl)))

    pub not_over : graph_bytes new ≤ 268435456 → Unrefused (TwinFull new t)
    not_over less r (inl h) = omega (arith, small, h.0)
    not_over less r (inr (a, inl h)) = omega (arith, few, h.0)
    not_over less r (inr (a, inr (b, h))) = omega (arith, less, h.0)
