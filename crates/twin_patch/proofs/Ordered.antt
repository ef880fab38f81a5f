-- Members set and taken out stay in order, and what a sorted value has inside is sorted.
use Rattle.std.proofs.Common.{◌≡◌, ℕ, zero, suc, List, [], ◌∷◌, Bool, true, false, cond, Option, Some, None, refl, sym, ap, ◌∙◌, subst}
use Rattle.std.specs.Prelude.{bytes_eq, option_and_then}
use Rattle.std.specs.Option.{option_map}
use Rattle.std.specs.Ordering.{nat_cmp, match_ordering}
use Rattle.std.specs.declared.cmp.Ordering.{Ordering}
use Rattle.std.specs.declared.cmp.Ordering.TheVariants.{Less, Equal, Greater}
use Rattle.std.proofs.lemmas.Cmp.{nat_list_cmp_total}
use Rattle.std.proofs.lemmas.Map.Lookups.{exact_bytes}
use Rattle.json_decimal.specs.Number.{Number}
use Rattle.json_tree.specs.Values.{Json, null, truth, number, text, array, object, Elements, no_elements, element, Members, no_members, member}
use Rattle.twin_patch.specs.Objects.{value_under, with_member, without_member, sorted_value, sorted_elements, sorted_members}
use Rattle.twin_patch.specs.Operations.{Change, add, replace, remove, Operation}
use Rattle.twin_patch.specs.Patched.{edited, changed_value, applied, applied_at}
use Rattle.twin_patch.specs.Machinery.Orders.{compared_keys, IsBeforeAll, IsInOrder, ElementsAreInOrder, AreInOrder}
use Rattle.twin_patch.proofs.Found.{turned_back}

-- a key before another and before the members is before these with that one
pub before_with : (k key : List ℕ) (v : Json) (ms : Members Number) → compared_keys k key ≡ Less → IsBeforeAll k ms → IsBeforeAll k (with_member key v ms)
before_with k key v no_members h before = (h, tt)
before_with k key v (member q w ms) h before = step (compared_keys key q) (before_with k key v ms h before.1) where
  step : (o : Ordering) → IsBeforeAll k (with_member key v ms) → IsBeforeAll k (match_ordering o (member key v (member q w ms)) (member q v ms) (member q w (with_member key v ms)))
  step Less behind = (h, before)
  step Equal behind = before
  step Greater behind = (before.0, behind)

pub before_later : (k q : List ℕ) (ms : Members Number) → compared_keys k q ≡ Less → IsBeforeAll q ms → IsBeforeAll k ms
before_later k q no_members h before = tt
before_later k q (member p w ms) h before = (nat_list_cmp_total.trans k q p h before.0, before_later k q ms h before.1)

pub with_order : (key : List ℕ) (v : Json) (ms : Members Number) → IsInOrder v → AreInOrder ms → AreInOrder (with_member key v ms)
with_order key v no_members sorted o = (tt, sorted, tt)
with_order key v (member k w ms) sorted o = step (compared_keys key k) refl (with_order key v ms sorted o.2) where
  step : (r : Ordering) → compared_keys key k ≡ r → AreInOrder (with_member key v ms) → AreInOrder (match_ordering r (member key v (member k w ms)) (member k v ms) (member k w (with_member key v ms)))
  step Less e behind = ((e, before_later key k ms e o.0), sorted, o)
  step Equal e behind = (o.0, sorted, o.2)
  step Greater e behind = (before_with k key v ms (turned_back key k e) o.0, o.1, behind)

pub before_without : (k key : List ℕ) (ms : Members Number) → IsBeforeAll k ms → IsBeforeAll k (without_member key ms)
before_without k key no_members before = tt
before_without k key (member q w ms) before = step (bytes_eq q key) (before_without k key ms before.1) where
  step : (b : Bool) → IsBeforeAll k (without_member key ms) → IsBeforeAll k (cond b ms (member q w (without_member key ms)))
  step true behind = before.1
  step false behind = (before.0, behind)

pub without_order : (key : List ℕ) (ms : Members Number) → AreInOrder ms → AreInOrder (without_member key ms)
without_order key no_members o = tt
without_order key (member k w ms) o = step (bytes_eq k key) (without_order key ms o.2) where
  step : (b : Bool) → AreInOrder (without_member key ms) → AreInOrder (cond b ms (member k w (without_member key ms)))
  step true behind = o.2
  step false behind = (before_without k key ms o.0, o.1, behind)

mutual
  pub sorted_order : (v : Json) → IsInOrder (sorted_value v)
  sorted_order null = tt
  sorted_order (truth b) = tt
  sorted_order (number n) = tt
  sorted_order (text bytes) = tt
  sorted_order (array vs) = elements_order vs
  sorted_order (object ms) = members_order ms

  pub elements_order : (vs : Elements Number) → ElementsAreInOrder (sorted_elements vs)
  elements_order no_elements = tt
  elements_order (element v vs) = (sorted_order v, elements_order vs)

  pub members_order : (ms : Members Number) → AreInOrder (sorted_members ms)
  members_order no_members = tt
  members_order (member k v ms) = with_order k (sorted_value v) (sorted_members ms) (sorted_order v) (members_order ms)

pub value_order : (key : List ℕ) (ms : Members Number) (v : Json) → AreInOrder ms → value_under key ms ≡ Some v → IsInOrder v
value_order key no_members v o h = absurd cc
value_order key (member k w ms) v o h = step (bytes_eq k key) h (value_order key ms v o.2) where
  step : (b : Bool) → cond b (Some w) (value_under key ms) ≡ Some v → (value_under key ms ≡ Some v → IsInOrder v) → IsInOrder v
  step true e behind = let same : w ≡ v = cc in subst IsInOrder same o.1
  step false e behind = behind e

-- what an edit and an operation leave is in order
edited_order : (change : Change) (key : List ℕ) (ms ns : Members Number) → AreInOrder ms → edited change key ms ≡ Some ns → AreInOrder ns
edited_order (add v) key ms ns o h = let same : with_member key (sorted_value v) ms ≡ ns = cc in subst AreInOrder same (with_order key (sorted_value v) ms (sorted_order v) o)
edited_order (replace v) key ms ns o h = step (value_under key ms) h where
  step : (found : Option Json) → option_map (λ old. with_member key (sorted_value v) ms) found ≡ Some ns → AreInOrder ns
  step None e = absurd cc
  step (Some old) e = let same : with_member key (sorted_value v) ms ≡ ns = cc in subst AreInOrder same (with_order key (sorted_value v) ms (sorted_order v) o)
edited_order remove key ms ns o h = step (value_under key ms) h where
  step : (found : Option Json) → option_map (λ old. without_member key ms) found ≡ Some ns → AreInOrder ns
  step None e = absurd cc
  step (Some old) e = let same : without_member key ms ≡ ns = cc in subst AreInOrder same (without_order key ms o)

pub changed_order : (change : Change) (key : List ℕ) (keys : List (List ℕ)) (v w : Json) → IsInOrder v → changed_value change key keys v ≡ Some w → IsInOrder w
changed_order change key [] (object ms) w o h = step (edited change key ms) refl h where
  step : (found : Option (Members Number)) → edited change key ms ≡ found → option_map object found ≡ Some w → IsInOrder w
  step None same e = absurd cc
  step (Some ns) same e = let is : object ns ≡ w = cc in subst IsInOrder is (edited_order change key ms ns o same)
changed_order change key (next ∷ keys) (object ms) w o h = step (value_under key ms) refl h (changed_order change next keys) where
  below : (part : Json) → value_under key ms ≡ Some part → ((a b : Json) → IsInOrder a → changed_value change next keys a ≡ Some b → IsInOrder b) → (found : Option Json) → changed_value change next keys part ≡ found
      → option_map (λ new. object (with_member key new ms)) found ≡ Some w → IsInOrder w
  below part has inner None same e = absurd cc
  below part has inner (Some new) same e =
      let is : object (with_member key new ms) ≡ w = cc in
      subst IsInOrder is (with_order key new ms (inner part new (value_order key ms part o has) same) o)

  step : (found : Option Json) → value_under key ms ≡ found
      → option_and_then (λ part. option_map (λ new. object (with_member key new ms)) (changed_value change next keys part)) found ≡ Some w → ((a b : Json) → IsInOrder a → changed_value change next keys a ≡ Some b → IsInOrder b) → IsInOrder w
  step None has e inner = absurd cc
  step (Some part) has e inner = below part has inner (changed_value change next keys part) refl e
changed_order change key [] null w o h = absurd cc
changed_order change key [] (truth b) w o h = absurd cc
changed_order change key [] (number n) w o h = absurd cc
changed_order change key [] (text t) w o h = absurd cc
changed_order change key [] (array vs) w o h = absurd cc
changed_order change key (next ∷ keys) null w o h = absurd cc
changed_order change key (next ∷ keys) (truth b) w o h = absurd cc
changed_order change key (next ∷ keys) (number n) w o h = absurd cc
changed_order change key (next ∷ keys) (text t) w o h = absurd cc
changed_order change key (next ∷ keys) (array vs) w o h = absurd cc

pub applied_order : (change : Change) (path : List (List ℕ)) (v w : Json) → IsInOrder v → applied_at change path v ≡ Some w → IsInOrder w
applied_order change [] v w o h = absurd cc
applied_order change (key ∷ keys) v w o h = changed_order change key keys v w o h
