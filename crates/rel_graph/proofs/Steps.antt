-- The fields of the edges still hang together after one edge changed.
use Rattle.std.proofs.Common.{◌≡◌, ◌≢◌, ℕ, ◌+◌, List, true, false, cond, Option, Some, None, refl, sym, ap, ◌∙◌, subst, Ordering, Less, Equal, Greater, is_eq, true≢false, length, arith, ⊎_elim}
use Rattle.std.specs.Option.{option_map, unwrap_or}
use Rattle.std.specs.Ordering.{ordering_then}
use Rattle.std.specs.List.{sum_by}
use Rattle.std.specs.List.Sorted.{IsStrictlySortedBy}
use Rattle.std.specs.Map.{lookup, keys_of, values_of}
use Rattle.std.specs.BTreeMap.{is_at}
use Rattle.std.proofs.lemmas.Bool.{cases_Bool}
use Rattle.std.proofs.lemmas.Cmp.{tied_itself}
use Rattle.std.proofs.lemmas.List.Sums.{length-filter}
use Rattle.std.proofs.lemmas.Map.Entries.{sum_by-insert_entry, sum_by-remove_entry}
use Rattle.ordered_table.proofs.Flat.{C}
use Rattle.ordered_table.proofs.Kept.{all_by_lookups, filter-all}
use Rattle.rel_graph.specs.declared.edge.Edge.{Edge}
use Rattle.rel_graph.specs.Edges.{key_cmp, key, keyed, with_edge, without_edge}
use Rattle.rel_graph.specs.Slots.{link_cmp, edges_at, HasKey, leads_to, slot_to, IsKept}
use Rattle.rel_graph.proofs.Tallies.{keys_total, same_key}
use Rattle.rel_graph.proofs.Joined.{AllStand, keyed-joined, keys-joined, values-keyed}

-- ---- links at a key, and at another
alone : (r : Ordering) → is_eq (ordering_then r Equal) ≡ is_eq r
alone Less = refl
alone Equal = refl
alone Greater = refl

at_equal : (a b : Ordering) → b ≡ Equal → is_eq (ordering_then a b) ≡ is_eq a
at_equal a b h = ap (λ r. is_eq (ordering_then a r)) h ∙ alone a

apart : (a b : Ordering) → is_eq b ≡ false → is_eq (ordering_then a b) ≡ false
apart Less b h = refl
apart Equal b h = h
apart Greater b h = refl

-- ---- links that changed at one link
pub link_else : (links links' : List ((List ℕ × (List ℕ × List ℕ)) × ℕ)) (target : List ℕ) (k : List ℕ × List ℕ) (w : Option ℕ) → ((q : List ℕ × (List ℕ × List ℕ)) → lookup (is_at (link_cmp q)) links' ≡ cond (is_eq (link_cmp q (target, k))) w (lookup (is_at (link_cmp q)) links))
    → (t : List ℕ) (q : List ℕ × List ℕ) → is_eq (key_cmp q k) ≡ false → lookup (is_at (link_cmp (t, q))) links' ≡ lookup (is_at (link_cmp (t, q))) links
link_else links links' target k w h t q b = h (t, q) ∙ ap (λ c. cond c w (lookup (is_at (link_cmp (t, q))) links)) (apart (C t target) (key_cmp q k) b)

pub link_here : (links links' : List ((List ℕ × (List ℕ × List ℕ)) × ℕ)) (target : List ℕ) (k : List ℕ × List ℕ) (w : Option ℕ) → ((q : List ℕ × (List ℕ × List ℕ)) → lookup (is_at (link_cmp q)) links' ≡ cond (is_eq (link_cmp q (target, k))) w (lookup (is_at (link_cmp q)) links))
    → (t : List ℕ) → lookup (is_at (link_cmp (t, k))) links' ≡ cond (is_eq (C t target)) w (lookup (is_at (link_cmp (t, k))) links)
link_here links links' target k w h t = h (t, k) ∙ ap (λ c. cond c w (lookup (is_at (link_cmp (t, k))) links)) (at_equal (C t target) (key_cmp k k) (tied_itself keys_total k))

module _ {P : Type 0} where
  -- ---- what a key leads to
  pub all_stand : (at : ℕ → Option (Edge P)) (order : List ((List ℕ × List ℕ) × ℕ)) → IsStrictlySortedBy key_cmp (keys_of order) → ((q : List ℕ × List ℕ) (slot : ℕ) → lookup (is_at (key_cmp q)) order ≡ Some slot → HasKey (at slot) q) → AllStand at order
  all_stand at order s h = all_by_lookups keys_total (λ q slot. HasKey (at slot) q) order s h

  pub stand : {at : ℕ → Option (Edge P)} {order : List ((List ℕ × List ℕ) × ℕ)} {links : List ((List ℕ × (List ℕ × List ℕ)) × ℕ)} {counts : List ((List ℕ × List ℕ) × ℕ)} {len : ℕ} → IsKept at order links counts len → AllStand at order
  stand {at} {order} k = all_stand at order k.sorted k.stands

  pub sorted-keyed : (at : ℕ → Option (Edge P)) (order : List ((List ℕ × List ℕ) × ℕ)) → IsStrictlySortedBy key_cmp (keys_of order) → AllStand at order → IsStrictlySortedBy key_cmp (keys_of (keyed (edges_at at (values_of order))))
  sorted-keyed at order s a = subst (IsStrictlySortedBy key_cmp) (sym (keys-joined at order a) ∙ ap keys_of (keyed-joined at order a)) s

  -- a slot that is vacant is led to by no key
  pub fresh : {at : ℕ → Option (Edge P)} {order : List ((List ℕ × List ℕ) × ℕ)} {links : List ((List ℕ × (List ℕ × List ℕ)) × ℕ)} {counts : List ((List ℕ × List ℕ) × ℕ)} {len : ℕ} → IsKept at order links counts len → (free : ℕ) → at free ≡ None
      → (q : List ℕ × List ℕ) (slot : ℕ) → lookup (is_at (key_cmp q)) order ≡ Some slot → slot ≢ free
  fresh {at} k free none q slot i p = subst (λ o. HasKey o q) (ap at p ∙ none) (k.stands q slot i)

  -- a slot that a key leads to has an edge with this key, and is led to by no other key
  pub own_key : {at : ℕ → Option (Edge P)} {order : List ((List ℕ × List ℕ) × ℕ)} {links : List ((List ℕ × (List ℕ × List ℕ)) × ℕ)} {counts : List ((List ℕ × List ℕ) × ℕ)} {len : ℕ} → IsKept at order links counts len → (k : List ℕ × List ℕ) (place : ℕ) (old : Edge P)
      → lookup (is_at (key_cmp k)) order ≡ Some place → at place ≡ Some old → key old ≡ k
  own_key kept k place old i h = subst (λ o. HasKey o k) h (kept.stands k place i)

  pub other_slot : {at : ℕ → Option (Edge P)} {order : List ((List ℕ × List ℕ) × ℕ)} {links : List ((List ℕ × (List ℕ × List ℕ)) × ℕ)} {counts : List ((List ℕ × List ℕ) × ℕ)} {len : ℕ} → IsKept at order links counts len → (k : List ℕ × List ℕ) (place : ℕ) (old : Edge P)
      → lookup (is_at (key_cmp k)) order ≡ Some place → at place ≡ Some old → (q : List ℕ × List ℕ) (slot : ℕ) → lookup (is_at (key_cmp q)) order ≡ Some slot → is_eq (key_cmp q k) ≡ false → slot ≢ place
  other_slot {at} kept k place old i h q slot j b p =
      let mine : key old ≡ q = subst (λ o. HasKey o q) (ap at p ∙ h) (kept.stands q slot j) in
      let same : q ≡ k = sym mine ∙ own_key kept k place old i h in
      true≢false (sym (ap is_eq (tied_itself keys_total k)) ∙ ap (λ x. is_eq (key_cmp x k)) (sym same) ∙ b)

  -- ---- one step of the first order, at the key k
  module _ (at at' : ℕ → Option (Edge P)) (order order' : List ((List ℕ × List ℕ) × ℕ)) (k : List ℕ × List ℕ) (w : Option ℕ)
      (moved : (q : List ℕ × List ℕ) → lookup (is_at (key_cmp q)) order' ≡ cond (is_eq (key_cmp q k)) w (lookup (is_at (key_cmp q)) order))
      (others : (q : List ℕ × List ℕ) (slot : ℕ) → lookup (is_at (key_cmp q)) order ≡ Some slot → is_eq (key_cmp q k) ≡ false → at' slot ≡ at slot) where
    now_at : (q : List ℕ × List ℕ) → is_eq (key_cmp q k) ≡ true → lookup (is_at (key_cmp q)) order' ≡ w
    now_at q b = moved q ∙ ap (λ c. cond c w (lookup (is_at (key_cmp q)) order)) b

    now_else : (q : List ℕ × List ℕ) → is_eq (key_cmp q k) ≡ false → lookup (is_at (key_cmp q)) order' ≡ lookup (is_at (key_cmp q)) order
    now_else q b = moved q ∙ ap (λ c. cond c w (lookup (is_at (key_cmp q)) order)) b

    pub stands-step : ((q : List ℕ × List ℕ) (slot : ℕ) → lookup (is_at (key_cmp q)) order ≡ Some slot → HasKey (at slot) q) → ((slot : ℕ) → w ≡ Some slot → HasKey (at' slot) k)
        → (q : List ℕ × List ℕ) (slot : ℕ) → lookup (is_at (key_cmp q)) order' ≡ Some slot → HasKey (at' slot) q
    stands-step stands mine q slot i =
        ⊎_elim
        (λ b. subst (λ x. HasKey (at' slot) x) (sym (same_key q k b)) (mine slot (sym (now_at q b) ∙ i)))
        (λ b. let found : lookup (is_at (key_cmp q)) order ≡ Some slot = sym (now_else q b) ∙ i in subst (λ o. HasKey o q) (sym (others q slot found b)) (stands q slot found))
        (cases_Bool (is_eq (key_cmp q k)))

    slots_same : (target : List ℕ) (o : Option ℕ) → ((slot : ℕ) → o ≡ Some slot → at' slot ≡ at slot) → slot_to target at o ≡ slot_to target at' o
    slots_same target None h = refl
    slots_same target (Some slot) h = ap (λ x. cond (leads_to target x) (Some slot) None) (sym (h slot refl))

    pub linked-step : (links links' : List ((List ℕ × (List ℕ × List ℕ)) × ℕ))
        → ((target : List ℕ) (q : List ℕ × List ℕ) → lookup (is_at (link_cmp (target, q))) links ≡ slot_to target at (lookup (is_at (key_cmp q)) order))
        → ((target : List ℕ) (q : List ℕ × List ℕ) → is_eq (key_cmp q k) ≡ false → lookup (is_at (link_cmp (target, q))) links' ≡ lookup (is_at (link_cmp (target, q))) links)
        → ((target : List ℕ) → lookup (is_at (link_cmp (target, k))) links' ≡ slot_to target at' w)
        → (target : List ℕ) (q : List ℕ × List ℕ) → lookup (is_at (link_cmp (target, q))) links' ≡ slot_to target at' (lookup (is_at (key_cmp q)) order')
    linked-step links links' linked apart_from at_k target q =
        ⊎_elim
        (λ b. ap (λ x. lookup (is_at (link_cmp (target, x))) links') (same_key q k b) ∙ at_k target ∙ ap (slot_to target at') (sym (now_at q b)))
        (λ b. apart_from target q b ∙ linked target q ∙ slots_same target (lookup (is_at (key_cmp q)) order) (λ slot i. others q slot i b) ∙ ap (slot_to target at') (sym (now_else q b)))
        (cases_Bool (is_eq (key_cmp q k)))

  -- ---- sums over the edges
  sums-with : (f : Edge P → ℕ) (e : Edge P) (es : List (Edge P)) → IsStrictlySortedBy key_cmp (keys_of (keyed es))
      → sum_by f (with_edge e es) + unwrap_or (option_map f (lookup (is_at (key_cmp (key e))) (keyed es))) 0 ≡ sum_by f es + f e
  sums-with f e es s = sum_by-insert_entry f keys_total (keyed es) (key e) e s ∙ ap (λ xs. sum_by f xs + f e) (values-keyed es)

  sums-without : (f : Edge P → ℕ) (k : List ℕ × List ℕ) (es : List (Edge P)) → sum_by f (without_edge k.0 k.1 es) + unwrap_or (option_map f (lookup (is_at (key_cmp k)) (keyed es))) 0 ≡ sum_by f es
  sums-without f k es = sum_by-remove_entry f (is_at (key_cmp k)) (keyed es) ∙ ap (sum_by f) (values-keyed es)

  pub length_as_sum : (es : List (Edge P)) → length es ≡ sum_by (λ _. 1) es
  length_as_sum es = ap length (sym (filter-all (λ _. true) (λ _. refl) es)) ∙ length-filter (λ _. true) es

  -- how a sum changes where an edge is put in where there was none, or in the place of another, or is taken out
  pub sum-new : (f : Edge P → ℕ) (e : Edge P) (es es' : List (Edge P)) → IsStrictlySortedBy key_cmp (keys_of (keyed es)) → lookup (is_at (key_cmp (key e))) (keyed es) ≡ None → es' ≡ with_edge e es → sum_by f es' ≡ sum_by f es + f e
  sum-new f e es es' s none n =
      let a = sums-with f e es s in
      let b : unwrap_or (option_map f (lookup (is_at (key_cmp (key e))) (keyed es))) 0 ≡ 0 = ap (λ o. unwrap_or (option_map f o) 0) none in
      let d : sum_by f es' ≡ sum_by f (with_edge e es) = ap (sum_by f) n in
      omega arith

  pub sum-over : (f : Edge P → ℕ) (e old : Edge P) (es es' : List (Edge P)) → IsStrictlySortedBy key_cmp (keys_of (keyed es)) → lookup (is_at (key_cmp (key e))) (keyed es) ≡ Some old → es' ≡ with_edge e es → sum_by f es' + f old ≡ sum_by f es + f e
  sum-over f e old es es' s some n =
      let a = sums-with f e es s in
      let b : unwrap_or (option_map f (lookup (is_at (key_cmp (key e))) (keyed es))) 0 ≡ f old = ap (λ o. unwrap_or (option_map f o) 0) some in
      let d : sum_by f es' ≡ sum_by f (with_edge e es) = ap (sum_by f) n in
      omega arith

  pub sum-out : (f : Edge P → ℕ) (k : List ℕ × List ℕ) (old : Edge P) (es es' : List (Edge P)) → lookup (is_at (key_cmp k)) (keyed es) ≡ Some old → es' ≡ without_edge k.0 k.1 es → sum_by f es' + f old ≡ sum_by f es
  sum-out f k old es es' some n =
      let a = sums-without f k es in
      let b : unwrap_or (option_map f (lookup (is_at (key_cmp k)) (keyed es))) 0 ≡ f old = ap (λ o. unwrap_or (option_map f o) 0) some in
      let d : sum_by f es' ≡ sum_by f (without_edge k.0 k.1 es) = ap (sum_by f) n in
      omega arith
