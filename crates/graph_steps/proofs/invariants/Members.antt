-- Members of objects by their keys: where one is put at its place, where all are sorted, and where parts of a sorted value
-- come from.
use Rattle.std.proofs.Common.{◌≡◌, ℕ, zero, suc, List, Bool, true, false, cond, bytes_eq, Option, Some, None, refl, sym, ap, ◌∙◌, subst, Less, Equal, Greater, is_eq, true≢false}
use Rattle.std.specs.Option.{option_map}
use Rattle.std.specs.Ordering.{match_ordering, ordering_reverse}
use Rattle.std.proofs.lemmas.Slice.Eq.{bytes_eq-Decides}
use Rattle.std.proofs.lemmas.Option.{same_Some, none-some}
use Rattle.json_decimal.specs.Number.{Number}
use Rattle.json_tree.specs.Values.{Json, Elements, no_elements, element, Members, no_members, member}
use Rattle.json_tree.specs.Places.{element_at, member_at}
use Rattle.json_tree.specs.Members.{value_at}
use Rattle.ordered_table.proofs.Flat.{C, c_total}
use Rattle.twin_patch.specs.Objects.{with_member, without_member, sorted_value, sorted_elements, sorted_members}
use Rattle.graph_steps.proofs.invariants.Keyed.{one_text, tests, itself}

-- ---- keys
same_key : (a b : List ℕ) → C a b ≡ Equal → a ≡ b
same_key a b e = one_text a b (ap is_eq e)

unlike_keys : (a b : List ℕ) → is_eq (C a b) ≡ false → bytes_eq b a ≡ false
unlike_keys a b e = sym (tests a b) ∙ e

turned : (a b : List ℕ) → C a b ≡ Greater → C b a ≡ Less
turned a b h = c_total.antisymm b a ∙ ap ordering_reverse h

-- ---- a member at its place
swapped : {A : Type 0} (b c : Bool) (x y r : A) → (b ≡ true → c ≡ true → ⊥) → cond c y (cond b x r) ≡ cond b x (cond c y r)
swapped true true x y r h = absurd (h refl refl)
swapped true false x y r h = refl
swapped false true x y r h = refl
swapped false false x y r h = refl

once : {A : Type 0} (b : Bool) (x y r : A) → cond b x r ≡ cond b x (cond b y r)
once true x y r = refl
once false x y r = refl

pub value-with : (q key : List ℕ) (v : Json) (ms : Members Number) → value_at q (with_member key v ms) ≡ cond (bytes_eq key q) (Some v) (value_at q ms)
value-with q key v no_members = refl
value-with q key v (member k w ms) =
    elim (C key k) as (λ o. C key k ≡ o → value_at q (match_ordering o (member key v (member k w ms)) (member k v ms) (member k w (with_member key v ms))) ≡ cond (bytes_eq key q) (Some v) (cond (bytes_eq k q) (Some w) (value_at q ms))) [
      | Less ↦ λ e. refl
      | Equal ↦ λ e.
          once (bytes_eq k q) (Some v) (Some w) (value_at q ms)
          ∙ ap (λ (x : List ℕ). cond (bytes_eq x q) (Some v) (cond (bytes_eq k q) (Some w) (value_at q ms))) (sym (same_key key k e))
      | Greater ↦ λ e.
          ap (cond (bytes_eq k q) (Some w)) (value-with q key v ms)
          ∙ swapped (bytes_eq key q) (bytes_eq k q) (Some v) (Some w) (value_at q ms)
          (λ a b. let same : key ≡ k = (bytes_eq-Decides key q).0 a ∙ sym ((bytes_eq-Decides k q).0 b) in true≢false (sym (itself key) ∙ ap (λ (x : List ℕ). is_eq (C key x)) same ∙ ap is_eq e))
    ] refl

skipped : {A : Type 0} (b c : Bool) (y r : A) → (b ≡ true → c ≡ true → ⊥) → c ≡ true → cond b y r ≡ r
skipped true c y r h e = absurd (h refl e)
skipped false c y r h e = refl

-- without one of another key
pub value-without : (q key : List ℕ) (ms : Members Number) → bytes_eq key q ≡ false → value_at q (without_member key ms) ≡ value_at q ms
value-without q key no_members other = refl
value-without q key (member k w ms) other =
    elim (bytes_eq k key) as (λ b. bytes_eq k key ≡ b → value_at q (cond b ms (member k w (without_member key ms))) ≡ cond (bytes_eq k q) (Some w) (value_at q ms)) [
      | true ↦ λ e. ap (λ c. cond c (Some w) (value_at q ms)) (sym (ap (λ (x : List ℕ). bytes_eq x q) ((bytes_eq-Decides k key).0 e) ∙ other))
      | false ↦ λ e. ap (cond (bytes_eq k q) (Some w)) (value-without q key ms other)
    ] refl

-- ---- all sorted
pub value-sorted : (q : List ℕ) (ms : Members Number) → value_at q (sorted_members ms) ≡ option_map sorted_value (value_at q ms)
value-sorted q no_members = refl
value-sorted q (member k w ms) =
    value-with q k (sorted_value w) (sorted_members ms) ∙ ap (cond (bytes_eq k q) (Some (sorted_value w))) (value-sorted q ms) ∙ mapped (bytes_eq k q)
  where
    mapped : (b : Bool) → cond b (Some (sorted_value w)) (option_map sorted_value (value_at q ms)) ≡ option_map sorted_value (cond b (Some w) (value_at q ms))
    mapped true = refl
    mapped false = refl

-- The keys ascend.
abbrev Below : List ℕ → Members Number → Type 0
Below key no_members = Unit {0}
Below key (member k v ms) = (C key k ≡ Less) × Below key ms

abbrev Rise : Members Number → Type 0
Rise no_members = Unit {0}
Rise (member key v ms) = Below key ms × Rise ms

below_later : (k q : List ℕ) (ms : Members Number) → C k q ≡ Less → Below q ms → Below k ms
below_later k q no_members h b = tt
below_later k q (member p w ms) h b = (c_total.trans k q p h b.0, below_later k q ms h b.1)

below_with : (k key : List ℕ) (v : Json) (ms : Members Number) → C k key ≡ Less → Below k ms → Below k (with_member key v ms)
below_with k key v no_members h b = (h, tt)
below_with k key v (member q w ms) h b =
    elim (C key q) as (λ o. Below k (match_ordering o (member key v (member q w ms)) (member q v ms) (member q w (with_member key v ms)))) [
      | Less ↦ (h, b)
      | Equal ↦ b
      | Greater ↦ (b.0, below_with k key v ms h b.1)
    ]

rise_with : (key : List ℕ) (v : Json) (ms : Members Number) → Rise ms → Rise (with_member key v ms)
rise_with key v no_members r = (tt, tt)
rise_with key v (member q w ms) r =
    elim (C key q) as (λ o. C key q ≡ o → Rise (match_ordering o (member key v (member q w ms)) (member q v ms) (member q w (with_member key v ms)))) [
      | Less ↦ λ e. ((e, below_later key q ms e r.0), r)
      | Equal ↦ λ e. r
      | Greater ↦ λ e. (below_with q key v ms (turned key q e) r.0, rise_with key v ms r.1)
    ] refl

rise_sorted : (ms : Members Number) → Rise (sorted_members ms)
rise_sorted no_members = tt
rise_sorted (member k v ms) = rise_with k (sorted_value v) (sorted_members ms) (rise_sorted ms)

below_at : (key : List ℕ) (ms : Members Number) (i : ℕ) (k : List ℕ) (w : Json) → Below key ms → member_at ms i ≡ Some (k, w) → C key k ≡ Less
below_at key no_members i k w b e = absurd cc
below_at key (member q v ms) zero k w b e = subst (λ (m : List ℕ × Json). C key m.0 ≡ Less) (same_Some (q, v) (k, w) e) b.0
below_at key (member q v ms) (suc i) k w b e = below_at key ms i k w b.1 e

-- where the keys ascend, each member is the first of its key
first_at : (ms : Members Number) (i : ℕ) (key : List ℕ) (w : Json) → Rise ms → member_at ms i ≡ Some (key, w) → value_at key ms ≡ Some w
first_at no_members i key w r e = absurd cc
first_at (member q v ms) zero key w r e =
    let pair : (q, v) ≡ (key, w) = same_Some (q, v) (key, w) e in
    ap (λ b. cond b (Some v) (value_at key ms)) ((bytes_eq-Decides q key).1 (ap (λ (m : List ℕ × Json). m.0) pair)) ∙ ap (λ (m : List ℕ × Json). Some m.1) pair
first_at (member q v ms) (suc i) key w r e =
    let less : C q key ≡ Less = below_at q ms i key w r.0 e in
    ap (λ b. cond b (Some v) (value_at key ms)) (sym (tests key q) ∙ ap is_eq (c_total.antisymm key q ∙ ap ordering_reverse less)) ∙ first_at ms i key w r.1 e

-- ---- where a member stands
pub found_at : (key : List ℕ) (ms : Members Number) (w : Json) → value_at key ms ≡ Some w → (i : ℕ) × (member_at ms i ≡ Some (key, w))
found_at key no_members w e = absurd cc
found_at key (member k v ms) w e =
    elim (bytes_eq k key) as (λ b. bytes_eq k key ≡ b → cond b (Some v) (value_at key ms) ≡ Some w → (i : ℕ) × (member_at (member k v ms) i ≡ Some (key, w))) [
      | true ↦ λ is h.
          let same : k ≡ key = (bytes_eq-Decides k key).0 is in
          let value : v ≡ w = same_Some v w h in
          (0, ap (λ (q : List ℕ). Some (q, v)) same ∙ ap (λ (x : Json). Some (key, x)) value)
      | false ↦ λ is h. let later = found_at key ms w h in (suc later.0, later.1)
    ] refl e

-- A member of sorted members is the first of its key, sorted.
pub sorted_from : (ms : Members Number) (i : ℕ) (key : List ℕ) (part : Json) → member_at (sorted_members ms) i ≡ Some (key, part) → (w : Json) × (value_at key ms ≡ Some w) × (part ≡ sorted_value w)
sorted_from ms i key part e = by (value_at key ms) refl (sym (value-sorted key ms) ∙ first_at (sorted_members ms) i key part (rise_sorted ms) e)
  where
    by : (o : Option Json) → value_at key ms ≡ o → option_map sorted_value (value_at key ms) ≡ Some part → (w : Json) × (value_at key ms ≡ Some w) × (part ≡ sorted_value w)
    by None is h = absurd (none-some part (sym (ap (option_map sorted_value) is) ∙ h))
    by (Some w) is h = (w, is, sym (same_Some (sorted_value w) part (sym (ap (option_map sorted_value) is) ∙ h)))

pub sorted_element : (vs : Elements Number) (i : ℕ) (part : Json) → element_at (sorted_elements vs) i ≡ Some part → (w : Json) × (element_at vs i ≡ Some w) × (part ≡ sorted_value w)
sorted_element no_elements i part e = absurd cc
sorted_element (element v vs) zero part e = (v, refl, sym (same_Some (sorted_value v) part e))
sorted_element (element v vs) (suc i) part e = sorted_element vs i part e
