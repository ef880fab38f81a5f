-- The text of a value has as many bytes as that of its sorted form.
use Rattle.std.proofs.Common.{◌≡◌, ℕ, ◌+◌, List, length, max, suc, refl, sym, ap, ap₂, ◌∙◌, arith}
use Rattle.std.specs.Ordering.{match_ordering}
use Rattle.std.specs.declared.cmp.Ordering.{Ordering}
use Rattle.std.specs.declared.cmp.Ordering.TheVariants.{Less, Equal, Greater}
use Rattle.std.proofs.lemmas.Map.Lookups.{exact_bytes}
use Rattle.json_decimal.specs.Number.{Number}
use Rattle.json_tree.specs.Printing.{printed, quoted}
use Rattle.json_tree.specs.Values.{Json, null, truth, number, text, array, object, Elements, no_elements, element, Members, no_members, member, LacksKey, HasDistinctKeys, ElementsHaveDistinctKeys, MembersHaveDistinctKeys}
use Rattle.json_length.specs.Lengths.{elements_length, member_length, members_length}
use Rattle.json_length.proofs.Lengths.{elements_closed, members_closed}
use Rattle.twin_patch.specs.Objects.{with_member, sorted_value, sorted_elements, sorted_members}
use Rattle.twin_patch.specs.Machinery.Orders.{compared_keys}

-- ---- keys that are not there
lacks_with : (k key : List ℕ) (v : Json) (ms : Members Number) → (k ≡ key → ⊥) → LacksKey k ms → LacksKey k (with_member key v ms)
lacks_with k key v no_members other l = (other, tt)
lacks_with k key v (member q w ms) other l = step (compared_keys key q) (lacks_with k key v ms other l.1) where
  step : (o : Ordering) → LacksKey k (with_member key v ms) → LacksKey k (match_ordering o (member key v (member q w ms)) (member q v ms) (member q w (with_member key v ms)))
  step Less behind = (other, l)
  step Equal behind = l
  step Greater behind = (l.0, behind)

lacks_sorted : (k : List ℕ) (ms : Members Number) → LacksKey k ms → LacksKey k (sorted_members ms)
lacks_sorted k no_members l = tt
lacks_sorted k (member q v ms) l = lacks_with k q (sorted_value v) (sorted_members ms) l.0 (lacks_sorted k ms l.1)

-- ---- one member more
inserted : (key : List ℕ) (v : Json) (ms : Members Number) → LacksKey key ms → members_length (with_member key v ms) ≡ member_length (key, v) + members_length ms
inserted key v no_members l = refl
inserted key v (member q w ms) l = step (compared_keys key q) refl (inserted key v ms l.1) where
  step : (o : Ordering) → compared_keys key q ≡ o → members_length (with_member key v ms) ≡ member_length (key, v) + members_length ms
      → members_length (match_ordering o (member key v (member q w ms)) (member q v ms) (member q w (with_member key v ms))) ≡ member_length (key, v) + members_length (member q w ms)
  step Less e behind = refl
  step Equal e behind = absurd (l.0 (exact_bytes key q e))
  step Greater e behind = omega (arith, behind)

-- ---- values
mutual
  pub same_length : (v : Json) → HasDistinctKeys v → length (printed v) ≡ length (printed (sorted_value v))
  same_length null d = refl
  same_length (truth b) d = refl
  same_length (number n) d = refl
  same_length (text t) d = refl
  same_length (array vs) d = ap suc (elements_closed vs ∙ ap (λ n. max 1 n) (elements_same vs d) ∙ sym (elements_closed (sorted_elements vs)))
  same_length (object ms) d = ap suc (members_closed ms ∙ ap (λ n. max 1 n) (members_same ms d) ∙ sym (members_closed (sorted_members ms)))

  elements_same : (vs : Elements Number) → ElementsHaveDistinctKeys vs → elements_length vs ≡ elements_length (sorted_elements vs)
  elements_same no_elements d = refl
  elements_same (element v vs) d = ap₂ (λ m n. m + 1 + n) (same_length v d.0) (elements_same vs d.1)

  members_same : (ms : Members Number) → MembersHaveDistinctKeys ms → members_length ms ≡ members_length (sorted_members ms)
  members_same no_members d = refl
  members_same (member key v ms) d =
      ap₂ (λ m n. length (quoted key) + m + 2 + n) (same_length v d.1) (members_same ms d.2)
      ∙ sym (inserted key (sorted_value v) (sorted_members ms) (lacks_sorted key ms d.0))
