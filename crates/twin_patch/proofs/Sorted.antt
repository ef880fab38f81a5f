-- A sorted copy is the value as a finite map.
use Rattle.std.proofs.Common.{◌≡◌, ℕ, List, [], ◌∷◌, Bool, true, false, refl, sym, ap, ap₂, ◌∙◌, subst}
use Rattle.std.specs.Prelude.{bytes_eq}
use Rattle.std.specs.List.{AllByRecursion, IsDistinct}
use Rattle.std.specs.List.Sorted.{IsStrictlySortedBy}
use Rattle.std.specs.Map.{keys_of}
use Rattle.std.specs.BTreeMap.{insert_entry}
use Rattle.std.specs.Ordering.{match_ordering, is_eq}
use Rattle.std.proofs.lemmas.Map.Text.{is_eq-slice_cmp}
use Rattle.std.proofs.lemmas.Map.Lookups.{exact_bytes}
use Rattle.std.specs.declared.cmp.Ordering.{Ordering}
use Rattle.std.specs.declared.cmp.Ordering.TheVariants.{Less, Equal, Greater}
use Rattle.std.proofs.lemmas.Map.Keys.{IsDistinct-cons}
use Rattle.json_decimal.specs.Number.{Number}
use Rattle.json_tree.specs.Values.{Json, null, truth, number, text, array, object, Elements, no_elements, element, Members, no_members, member, members_of, LacksKey, HasDistinctKeys, ElementsHaveDistinctKeys, MembersHaveDistinctKeys}
use Rattle.json_tree.specs.Sorting.{IsSortedOf, ElementsAreSortedOf, MembersAreSortedOf}
use Rattle.twin_patch.specs.Objects.{with_member, sorted_value, sorted_elements, sorted_members}
use Rattle.twin_patch.specs.Machinery.Orders.{compared_keys, IsBeforeAll, AreInOrder}
use Rattle.twin_patch.proofs.Ordered.{members_order}
use Rattle.twin_patch.proofs.Moved.{Pair, gathered, moved_are, equal}

-- one member more in the list is one more in the map
inserted : (key : List ℕ) (v : Json) (es : List Pair) → with_member key v (members_of es) ≡ members_of (insert_entry compared_keys es key v)
inserted key v [] = refl
inserted key v (e ∷ es) = step (compared_keys key e.0) (inserted key v es) where
  step : (o : Ordering) → with_member key v (members_of es) ≡ members_of (insert_entry compared_keys es key v) → match_ordering o (member key v (member e.0 e.1 (members_of es))) (member e.0 v (members_of es)) (member e.0 e.1 (with_member key v (members_of es)))
      ≡ members_of (match_ordering o ((key, v) ∷ e ∷ es) ((e.0, v) ∷ es) (e ∷ insert_entry compared_keys es key v))
  step Less behind = refl
  step Equal behind = refl
  step Greater behind = ap (λ rest. member e.0 e.1 rest) behind

keys_before : (k : List ℕ) (es : List Pair) → IsBeforeAll k (members_of es) → AllByRecursion (λ y. compared_keys k y ≡ Less) (keys_of es)
keys_before k [] h = tt
keys_before k (e ∷ es) h = (h.0, keys_before k es h.1)

strictly : (es : List Pair) → AreInOrder (members_of es) → IsStrictlySortedBy compared_keys (keys_of es)
unfolding IsStrictlySortedBy
strictly [] o = tt
strictly (e ∷ es) o = (keys_before e.0 es o.0, strictly es o.2)

-- the keys of the sorted values are those of the members
other_keys : (b : Bool) (k q : List ℕ) → bytes_eq k q ≡ b → (k ≡ q → ⊥) → bytes_eq k q ≡ false
other_keys true k q e differ = absurd (differ (equal k q e))
other_keys false k q e differ = e

apart : (k : List ℕ) (ms : Members Number) (values : List Pair) → LacksKey k ms → MembersAreSortedOf ms (members_of values) → AllByRecursion (λ y. bytes_eq k y ≡ false) (keys_of values)
apart k no_members [] lacks h = tt
apart k no_members (m ∷ values) lacks h = absurd (let f : member m.0 m.1 (members_of values) ≡ no_members = h in cc)
apart k (member q v ms) [] lacks (x, xs, h, hs, e) = absurd (let f : no_members ≡ member q x xs = e in cc)
apart k (member q v ms) (m ∷ values) lacks (x, xs, h, hs, e) =
    let f : member m.0 m.1 (members_of values) ≡ member q x xs = e in
    let key : m.0 ≡ q = cc in
    let rest : xs ≡ members_of values = cc in (
      other_keys (bytes_eq k m.0) k m.0 refl (λ same. lacks.0 (same ∙ key)),
      apart k ms values lacks.1 (subst (λ (zs : Members Number). MembersAreSortedOf ms zs) rest hs),
    )

distinct : (ms : Members Number) (values : List Pair) → MembersHaveDistinctKeys ms → MembersAreSortedOf ms (members_of values) → IsDistinct bytes_eq (keys_of values)
unfolding IsDistinct
distinct no_members [] d h = tt
distinct no_members (m ∷ values) d h = absurd (let f : member m.0 m.1 (members_of values) ≡ no_members = h in cc)
distinct (member q v ms) [] d (x, xs, h, hs, e) = absurd (let f : no_members ≡ member q x xs = e in cc)
distinct (member q v ms) (m ∷ values) d (x, xs, h, hs, e) =
    let f : member m.0 m.1 (members_of values) ≡ member q x xs = e in
    let key : q ≡ m.0 = cc in
    let rest : xs ≡ members_of values = cc in
    let below = subst (λ (zs : Members Number). MembersAreSortedOf ms zs) rest hs in
    (subst (λ k. AllByRecursion (λ y. bytes_eq k y ≡ false) (keys_of values)) key (apart q ms values d.0 below), distinct ms values d.2 below)

mutual
  pub sorted_is : (v w : Json) → HasDistinctKeys v → IsSortedOf v w → w ≡ sorted_value v
  sorted_is null w d h = h
  sorted_is (truth b) w d h = h
  sorted_is (number n) w d h = h
  sorted_is (text t) w d h = h
  sorted_is (array vs) w d (ws, h, e) = e ∙ ap array (elements_are vs ws d h)
  sorted_is (object ms) w d (values, moved, h, p, o, e) =
      let same : sorted_members ms ≡ members_of (gathered values) = gathered_is ms values d h in
      let rise = strictly (gathered values) (subst AreInOrder same (members_order ms)) in
      e ∙ ap object (ap members_of (moved_are values moved (distinct ms values d h) p o rise) ∙ sym same)

  elements_are : (vs ws : Elements Number) → ElementsHaveDistinctKeys vs → ElementsAreSortedOf vs ws → ws ≡ sorted_elements vs
  elements_are no_elements ws d h = h
  elements_are (element v vs) ws d (x, xs, h, hs, e) = e ∙ ap₂ (λ (y : Json) (ys : Elements Number). element y ys) (sorted_is v x d.0 h) (elements_are vs xs d.1 hs)

  gathered_is : (ms : Members Number) (values : List Pair) → MembersHaveDistinctKeys ms → MembersAreSortedOf ms (members_of values) → sorted_members ms ≡ members_of (gathered values)
  gathered_is no_members [] d h = refl
  gathered_is no_members (m ∷ values) d h = absurd (let f : member m.0 m.1 (members_of values) ≡ no_members = h in cc)
  gathered_is (member q v ms) [] d (x, xs, h, hs, e) = absurd (let f : no_members ≡ member q x xs = e in cc)
  gathered_is (member q v ms) (m ∷ values) d (x, xs, h, hs, e) =
      let f : member m.0 m.1 (members_of values) ≡ member q x xs = e in
      let key : q ≡ m.0 = cc in
      let value : x ≡ m.1 = cc in
      let rest : xs ≡ members_of values = cc in
      let first : sorted_value v ≡ m.1 = sym (sorted_is v x d.1 h) ∙ value in
      let others = gathered_is ms values d.2 (subst (λ (zs : Members Number). MembersAreSortedOf ms zs) rest hs) in
      ap₂ (λ (k : List ℕ) (y : Json). with_member k y (sorted_members ms)) key first
      ∙ ap (λ zs. with_member m.0 m.1 zs) others ∙ inserted m.0 m.1 (gathered values)
