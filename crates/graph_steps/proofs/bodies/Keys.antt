-- Keys and values of members, of sorted ones too.
use Rattle.std.proofs.Common.{◌≡◌, ℕ, List, Bool, true, false, bytes_eq, Some, refl, sym, ap, subst, ◌∙◌}
use Rattle.std.specs.Prelude.{if◌then◌else◌, IsTrue}
use Rattle.std.specs.Ordering.{match_ordering}
use Rattle.std.specs.declared.cmp.Ordering.{Ordering}
use Rattle.std.specs.declared.cmp.Ordering.TheVariants.{Less, Equal, Greater}
use Rattle.json_decimal.specs.Number.{Number}
use Rattle.json_tree.specs.Values.{Json, null, truth, number, text, array, object, Elements, no_elements, element, Members, no_members, member, LacksKey, HasDistinctKeys, ElementsHaveDistinctKeys, MembersHaveDistinctKeys}
use Rattle.json_tree.specs.Members.{members_in, value_at}
use Rattle.model_life.proofs.resolution.ByKey.{alike}
use Rattle.twin_patch.specs.Objects.{with_member, sorted_value, sorted_elements, sorted_members}
use Rattle.twin_patch.specs.Machinery.Orders.{compared_keys, IsBeforeAll, IsInOrder, ElementsAreInOrder, AreInOrder}
use Rattle.twin_patch.proofs.Ordered.{sorted_order}
use Rattle.twin_value.specs.Twins.{picked, joined_members}
use Rattle.graph_steps.specs.Typed.{AllKeys}

-- ---- members in order
not_itself : (k q : List ℕ) → compared_keys k q ≡ Less → k ≡ q → ⊥
not_itself k q less same = let e : Less ≡ Equal = sym less ∙ ap (λ (x : List ℕ). compared_keys k x) (sym same) ∙ alike k in absurd cc

lacks_before : (k : List ℕ) (ms : Members Number) → IsBeforeAll k ms → LacksKey k ms
lacks_before k no_members h = tt
lacks_before k (member q v ms) h = (not_itself k q h.0, lacks_before k ms h.1)

mutual
  pub order_distinct : (v : Json) → IsInOrder v → HasDistinctKeys v
  order_distinct null h = tt
  order_distinct (truth b) h = tt
  order_distinct (number n) h = tt
  order_distinct (text t) h = tt
  order_distinct (array vs) h = elements_distinct vs h
  order_distinct (object ms) h = members_distinct ms h

  elements_distinct : (vs : Elements Number) → ElementsAreInOrder vs → ElementsHaveDistinctKeys vs
  elements_distinct no_elements h = tt
  elements_distinct (element v vs) h = (order_distinct v h.0, elements_distinct vs h.1)

  pub members_distinct : (ms : Members Number) → AreInOrder ms → MembersHaveDistinctKeys ms
  members_distinct no_members h = tt
  members_distinct (member k v ms) h = (lacks_before k ms h.0, order_distinct v h.1, members_distinct ms h.2)

first_with : (k : List ℕ) (v : Json) (ms : Members Number) → IsBeforeAll k ms → with_member k v ms ≡ member k v ms
first_with k v no_members h = refl
first_with k v (member q w ms) h = ap (λ (o : Ordering). match_ordering o (member k v (member q w ms)) (member q v ms) (member q w (with_member k v ms))) h.0

mutual
  pub order_sorted : (v : Json) → IsInOrder v → sorted_value v ≡ v
  order_sorted null h = refl
  order_sorted (truth b) h = refl
  order_sorted (number n) h = refl
  order_sorted (text t) h = refl
  order_sorted (array vs) h = ap array (elements_sorted vs h)
  order_sorted (object ms) h = ap object (members_sorted ms h)

  elements_sorted : (vs : Elements Number) → ElementsAreInOrder vs → sorted_elements vs ≡ vs
  elements_sorted no_elements h = refl
  elements_sorted (element v vs) h = ap (λ (x : Json). element x (sorted_elements vs)) (order_sorted v h.0) ∙ ap (λ (xs : Elements Number). element v xs) (elements_sorted vs h.1)

  members_sorted : (ms : Members Number) → AreInOrder ms → sorted_members ms ≡ ms
  members_sorted no_members h = refl
  members_sorted (member k v ms) h =
      ap (λ (x : Json). with_member k x (sorted_members ms)) (order_sorted v h.1)
      ∙ ap (λ (xs : Members Number). with_member k v xs) (members_sorted ms h.2)
      ∙ first_with k v ms h.0

pub sorted_again : (v : Json) → sorted_value (sorted_value v) ≡ sorted_value v
sorted_again v = order_sorted (sorted_value v) (sorted_order v)

pub sorted_in_order : (v : Json) → sorted_value v ≡ v → IsInOrder v
sorted_in_order v h = subst IsInOrder h (sorted_order v)

-- ---- keys that are lacking
lacks_with : (key k : List ℕ) (v : Json) (ms : Members Number) → (key ≡ k → ⊥) → LacksKey key ms → LacksKey key (with_member k v ms)
lacks_with key k v no_members other h = (other, tt)
lacks_with key k v (member q w ms) other h = step (compared_keys k q) (lacks_with key k v ms other h.1) where
  step : (o : Ordering) → LacksKey key (with_member k v ms) → LacksKey key (match_ordering o (member k v (member q w ms)) (member q v ms) (member q w (with_member k v ms)))
  step Less later = (other, h)
  step Equal later = h
  step Greater later = (h.0, later)

pub lacks_sorted : (key : List ℕ) (ms : Members Number) → LacksKey key ms → LacksKey key (sorted_members ms)
lacks_sorted key no_members h = tt
lacks_sorted key (member k v ms) h = lacks_with key k (sorted_value v) (sorted_members ms) h.0 (lacks_sorted key ms h.1)

module _ (p : List ℕ → Bool) (f : Json → Json) where
  lacks_either : (b : Bool) (key k : List ℕ) (v : Json) (ms : Members Number) → (b ≡ true → key ≡ k → ⊥) → LacksKey key ms → LacksKey key (if b then member k v ms else ms)
  lacks_either true key k v ms other h = (other refl, h)
  lacks_either false key k v ms other h = h

  pub lacks_picked : (key : List ℕ) (ms : Members Number) → LacksKey key ms → LacksKey key (picked p f ms)
  lacks_picked key no_members h = tt
  lacks_picked key (member k v ms) h = lacks_either (p k) key k (f v) (picked p f ms) (λ e. h.0) (lacks_picked key ms h.1)

  -- a key that does not pass
  pub lacks_failing : (key : List ℕ) → p key ≡ false → (ms : Members Number) → LacksKey key (picked p f ms)
  lacks_failing key fails no_members = tt
  lacks_failing key fails (member k v ms) =
      lacks_either (p k) key k (f v) (picked p f ms) (λ e same. let g : true ≡ false = sym e ∙ ap p (sym same) ∙ fails in absurd cc) (lacks_failing key fails ms)

pub lacks_joined : (key : List ℕ) (ms ns : Members Number) → LacksKey key ms → LacksKey key ns → LacksKey key (joined_members ms ns)
lacks_joined key no_members ns h g = g
lacks_joined key (member k v ms) ns h g = (h.0, lacks_joined key ms ns h.1 g)

-- ---- facts of all keys, and of all values
abbrev pub AllValues : (Json → Type 0) → Members Number → Type 0
AllValues P no_members = Unit {0}
AllValues P (member key v ms) = P v × AllValues P ms

module _ (P : List ℕ → Type 0) where
  keys_with : (k : List ℕ) (v : Json) (ms : Members Number) → P k → AllKeys P ms → AllKeys P (with_member k v ms)
  keys_with k v no_members h all = (h, tt)
  keys_with k v (member q w ms) h all = step (compared_keys k q) (keys_with k v ms h all.1) where
    step : (o : Ordering) → AllKeys P (with_member k v ms) → AllKeys P (match_ordering o (member k v (member q w ms)) (member q v ms) (member q w (with_member k v ms)))
    step Less later = (h, all)
    step Equal later = all
    step Greater later = (all.0, later)

  pub keys_sorted : (ms : Members Number) → AllKeys P ms → AllKeys P (sorted_members ms)
  keys_sorted no_members all = tt
  keys_sorted (member k v ms) all = keys_with k (sorted_value v) (sorted_members ms) all.0 (keys_sorted ms all.1)

  pub keys_weaker : (Q : List ℕ → Type 0) → ((key : List ℕ) → P key → Q key) → (ms : Members Number) → AllKeys P ms → AllKeys Q ms
  keys_weaker Q f no_members all = tt
  keys_weaker Q f (member k v ms) all = (f k all.0, keys_weaker Q f ms all.1)

pub keys_picked : (p : List ℕ → Bool) (f : Json → Json) (ms : Members Number) → AllKeys (λ key. IsTrue (p key)) (picked p f ms)
keys_picked p f no_members = tt
keys_picked p f (member k v ms) = either (p k) refl (keys_picked p f ms) where
  either : (b : Bool) → p k ≡ b → AllKeys (λ key. IsTrue (p key)) (picked p f ms) → AllKeys (λ key. IsTrue (p key)) (if b then member k (f v) (picked p f ms) else picked p f ms)
  either true e later = (e, later)
  either false e later = later

module _ (P : Json → Type 0) where
  values_with : (k : List ℕ) (v : Json) (ms : Members Number) → P v → AllValues P ms → AllValues P (with_member k v ms)
  values_with k v no_members h all = (h, tt)
  values_with k v (member q w ms) h all = step (compared_keys k q) (values_with k v ms h all.1) where
    step : (o : Ordering) → AllValues P (with_member k v ms) → AllValues P (match_ordering o (member k v (member q w ms)) (member q v ms) (member q w (with_member k v ms)))
    step Less later = (h, all)
    step Equal later = (h, all.1)
    step Greater later = (all.0, later)

  pub values_sorted : (ms : Members Number) → AllValues (λ v. P (sorted_value v)) ms → AllValues P (sorted_members ms)
  values_sorted no_members all = tt
  values_sorted (member k v ms) all = values_with k (sorted_value v) (sorted_members ms) all.0 (values_sorted ms all.1)

  pub values_picked : (p : List ℕ → Bool) (f : Json → Json) (ms : Members Number) → ((v : Json) → P (f v)) → AllValues P (picked p f ms)
  values_picked p f no_members h = tt
  values_picked p f (member k v ms) h = either (p k) (values_picked p f ms h) where
    either : (b : Bool) → AllValues P (picked p f ms) → AllValues P (if b then member k (f v) (picked p f ms) else picked p f ms)
    either true later = (h v, later)
    either false later = later

  pub value_has : (key : List ℕ) (ms : Members Number) (v : Json) → AllValues P ms → value_at key ms ≡ Some v → P v
  value_has key no_members v all h = absurd cc
  value_has key (member k w ms) v all h = either (bytes_eq k key) h (value_has key ms v all.1) where
    either : (b : Bool) → (if b then Some w else value_at key ms) ≡ Some v → (value_at key ms ≡ Some v → P v) → P v
    either true e later = let same : w ≡ v = cc in subst P same all.0
    either false e later = later e

-- ---- members no two of which have one key
pub distinct_picked : (p : List ℕ → Bool) (f : Json → Json) (ms : Members Number) → MembersHaveDistinctKeys ms → AllValues (λ v. HasDistinctKeys (f v)) ms → MembersHaveDistinctKeys (picked p f ms)
distinct_picked p f no_members d all = tt
distinct_picked p f (member k v ms) d all = either (p k) (distinct_picked p f ms d.2 all.1) where
  either : (b : Bool) → MembersHaveDistinctKeys (picked p f ms) → MembersHaveDistinctKeys (if b then member k (f v) (picked p f ms) else picked p f ms)
  either true later = (lacks_picked p f k ms d.0, all.0, later)
  either false later = later

pub distinct_joined : (ms ns : Members Number) → MembersHaveDistinctKeys ms → MembersHaveDistinctKeys ns → AllKeys (λ key. LacksKey key ns) ms → MembersHaveDistinctKeys (joined_members ms ns)
distinct_joined no_members ns d e all = e
distinct_joined (member k v ms) ns d e all = (lacks_joined k ms ns d.0 all.0, d.1, distinct_joined ms ns d.2 e all.1)

pub distinct_right : (ms ns : Members Number) → MembersHaveDistinctKeys (joined_members ms ns) → MembersHaveDistinctKeys ns
distinct_right no_members ns d = d
distinct_right (member k v ms) ns d = distinct_right ms ns d.2

pub distinct_values : (f : Json → Json) (ms : Members Number) → MembersHaveDistinctKeys (picked (λ key. true) f ms) → AllValues (λ v. HasDistinctKeys (f v)) ms
distinct_values f no_members d = tt
distinct_values f (member k v ms) d = (d.1, distinct_values f ms d.2)

pub values_distinct : (ms : Members Number) → MembersHaveDistinctKeys ms → AllValues (λ (v : Json). HasDistinctKeys v) ms
values_distinct no_members d = tt
values_distinct (member k v ms) d = (d.1, values_distinct ms d.2)

pub values_weaker : (P Q : Json → Type 0) → ((v : Json) → P v → Q v) → (ms : Members Number) → AllValues P ms → AllValues Q ms
values_weaker P Q f no_members all = tt
values_weaker P Q f (member k v ms) all = (f v all.0, values_weaker P Q f ms all.1)

pub members_of_distinct : (v : Json) → HasDistinctKeys v → MembersHaveDistinctKeys (members_in v)
members_of_distinct null d = tt
members_of_distinct (truth b) d = tt
members_of_distinct (number n) d = tt
members_of_distinct (text t) d = tt
members_of_distinct (array vs) d = tt
members_of_distinct (object ms) d = d

pub members_in_order : (v : Json) → IsInOrder v → AreInOrder (members_in v)
members_in_order null h = tt
members_in_order (truth b) h = tt
members_in_order (number n) h = tt
members_in_order (text t) h = tt
members_in_order (array vs) h = tt
members_in_order (object ms) h = h

pub values_in_order : (ms : Members Number) → AreInOrder ms → AllValues IsInOrder ms
values_in_order no_members h = tt
values_in_order (member k v ms) h = (h.1, values_in_order ms h.2)

pub lacks_sorted_value : (key : List ℕ) (v : Json) → LacksKey key (members_in v) → LacksKey key (members_in (sorted_value v))
lacks_sorted_value key null h = tt
lacks_sorted_value key (truth b) h = tt
lacks_sorted_value key (number n) h = tt
lacks_sorted_value key (text t) h = tt
lacks_sorted_value key (array vs) h = tt
lacks_sorted_value key (object ms) h = lacks_sorted key ms h
