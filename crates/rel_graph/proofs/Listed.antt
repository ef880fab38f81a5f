-- The slots that the two orders list are those of the edges of a source, and of a target.
use Rattle.std.proofs.Common.{◌≡◌, ℕ, List, [], ◌∷◌, map, Bool, true, false, cond, Option, Some, None, refl, sym, ap, ◌∙◌, subst, is_eq}
use Rattle.std.specs.Option.{IsSomeAnd}
use Rattle.std.specs.Ordering.{is_lt}
use Rattle.std.specs.List.{AllByRecursion, cons_option, filter}
use Rattle.std.specs.List.Sorted.{IsStrictlySortedBy}
use Rattle.std.specs.Map.{lookup, keys_of, values_of}
use Rattle.std.specs.BTreeMap.{is_at}
use Rattle.std.proofs.lemmas.Cmp.{eq_by_cmp_equiv}
use Rattle.std.proofs.lemmas.Map.Keys.{IsDistinct-from_sorted}
use Rattle.std.proofs.lemmas.Map.Entries.{lookup-filter-values, option_filter}
use Rattle.ordered_table.specs.Rows.{row_at, row_of}
use Rattle.ordered_table.proofs.Flat.{C}
use Rattle.ordered_table.proofs.Kept.{same_by_lookups, lookup-row, sorted-row, sorted-filter}
use Rattle.rel_graph.specs.declared.edge.Edge.{Edge}
use Rattle.rel_graph.specs.Edges.{key_cmp, key, EdgesInOrder, is_into, out_of, into_of, out_past, into_past}
use Rattle.rel_graph.specs.Slots.{link_cmp, edges_at, HasKey, leads_to, slot_to, IsKept}
use Rattle.rel_graph.proofs.Tallies.{keys_total, exact_keys}
use Rattle.rel_graph.proofs.Joined.{AllStand, keys-keyed}
use Rattle.rel_graph.proofs.Steps.{stand, sorted-keyed}

id_of : {P : Type 0} (o : Option (Edge P)) (k : List ℕ × List ℕ) → HasKey o k → IsSomeAnd o (λ e. e.id ≡ k.1)
id_of None k h = absurd h
id_of (Some e) k h = ap (λ (x : List ℕ × List ℕ). x.1) h

module _ {P : Type 0} (at : ℕ → Option (Edge P)) where
  pub listed-out : (source : List ℕ) (order : List ((List ℕ × List ℕ) × ℕ)) → AllStand at order → edges_at at (values_of (row_of source order)) ≡ out_of source (edges_at at (values_of order))
  listed-out source [] a = refl
  listed-out source (x ∷ xs) a =
      let rest = out_of source (edges_at at (values_of xs)) in
      elim (at x.1) as (λ o. at x.1 ≡ o → HasKey o x.0 → edges_at at (values_of (row_of source (x ∷ xs))) ≡ out_of source (cons_option o (edges_at at (values_of xs)))) [
        | None ↦ λ p h. absurd h
        | Some e ↦ λ p h.
            elim (is_eq (C source x.0.0)) as (λ b. edges_at at (values_of (map (λ (y : (List ℕ × List ℕ) × ℕ). (y.0.1, y.1)) (cond b (x ∷ row_at source xs) (row_at source xs)))) ≡ cond b (e ∷ rest) rest) [
              | true ↦ ap (λ o. cons_option o (edges_at at (values_of (row_of source xs)))) p ∙ ap (λ es. e ∷ es) (listed-out source xs a.1)
              | false ↦ listed-out source xs a.1
            ]
            ∙ ap (λ (k : List ℕ × List ℕ). cond (is_eq (C source k.0)) (e ∷ rest) rest) (sym h)
      ] refl a.0

  -- ---- the part of a list of slots that lies past a key, which f reads from an edge
  module _ {K : Type 0} (f : Edge P → K) where
    abbrev AllKeyed : List (K × ℕ) → Type 0
    AllKeyed xs = AllByRecursion (λ x. IsSomeAnd (at x.1) (λ e. f e ≡ x.0)) xs

    past : (p : K → Bool) (xs : List (K × ℕ)) → AllKeyed xs → edges_at at (values_of (filter (λ x. p x.0) xs)) ≡ filter (λ e. p (f e)) (edges_at at (values_of xs))
    past p [] a = refl
    past p (x ∷ xs) a =
        let rest = filter (λ e. p (f e)) (edges_at at (values_of xs)) in
        elim (at x.1) as (λ o. at x.1 ≡ o → IsSomeAnd o (λ e. f e ≡ x.0) → edges_at at (values_of (cond (p x.0) (x ∷ filter (λ y. p y.0) xs) (filter (λ y. p y.0) xs))) ≡ filter (λ e. p (f e)) (cons_option o (edges_at at (values_of xs)))) [
          | None ↦ λ q h. absurd h
          | Some e ↦ λ q h.
              elim (p x.0) as (λ b. edges_at at (values_of (cond b (x ∷ filter (λ y. p y.0) xs) (filter (λ y. p y.0) xs))) ≡ cond b (e ∷ rest) rest) [
                | true ↦ ap (λ o. cons_option o (edges_at at (values_of (filter (λ y. p y.0) xs)))) q ∙ ap (λ es. e ∷ es) (past p xs a.1)
                | false ↦ past p xs a.1
              ]
              ∙ ap (λ k. cond (p k) (e ∷ rest) rest) (sym h)
        ] refl a.0

    all_keyed-filter : (p : K × ℕ → Bool) (xs : List (K × ℕ)) → AllKeyed xs → AllKeyed (filter p xs)
    all_keyed-filter p [] a = tt
    all_keyed-filter p (x ∷ xs) a = elim (p x) as (λ b. AllKeyed (cond b (x ∷ filter p xs) (filter p xs))) [
      | true ↦ (a.0, all_keyed-filter p xs a.1)
      | false ↦ all_keyed-filter p xs a.1
    ]

  all_keyed : (order : List ((List ℕ × List ℕ) × ℕ)) → AllStand at order → AllKeyed key order
  all_keyed order a = a

  row_ids : (source : List ℕ) (order : List ((List ℕ × List ℕ) × ℕ)) → AllStand at order → AllKeyed (λ e. e.id) (row_of source order)
  row_ids source [] a = tt
  row_ids source (x ∷ xs) a =
      elim (is_eq (C source x.0.0)) as (λ b. AllKeyed (λ e. e.id) (map (λ (y : (List ℕ × List ℕ) × ℕ). (y.0.1, y.1)) (cond b (x ∷ row_at source xs) (row_at source xs)))) [
        | true ↦ (id_of (at x.1) x.0 a.0, row_ids source xs a.1)
        | false ↦ row_ids source xs a.1
      ]

  pub listed-out-after : (source id : List ℕ) (order : List ((List ℕ × List ℕ) × ℕ)) → AllStand at order
      → edges_at at (values_of (filter (λ x. is_lt (C id x.0)) (row_of source order))) ≡ out_past source id (edges_at at (values_of order))
  listed-out-after source id order a =
      past (λ e. e.id) (λ x. is_lt (C id x)) (row_of source order) (row_ids source order a)
      ∙ ap (filter (λ e. is_lt (C id e.id))) (listed-out source order a)

  -- the entries of the first order whose edges lead to a target
  abbrev leading : List ℕ → List ((List ℕ × List ℕ) × ℕ) → List ((List ℕ × List ℕ) × ℕ)
  leading target order = filter (λ x. leads_to target (at x.1)) order

  edges-leading : (target : List ℕ) (order : List ((List ℕ × List ℕ) × ℕ)) → edges_at at (values_of (leading target order)) ≡ into_of target (edges_at at (values_of order))
  edges-leading target [] = refl
  edges-leading target (x ∷ xs) =
      let rest = into_of target (edges_at at (values_of xs)) in
      elim (at x.1) as (λ o. at x.1 ≡ o → edges_at at (values_of (cond (leads_to target o) (x ∷ leading target xs) (leading target xs))) ≡ into_of target (cons_option o (edges_at at (values_of xs)))) [
        | None ↦ λ p. edges-leading target xs
        | Some e ↦ λ p.
            elim (is_into target e) as (λ b. edges_at at (values_of (cond b (x ∷ leading target xs) (leading target xs))) ≡ cond b (e ∷ rest) rest) [
              | true ↦ ap (λ o. cons_option o (edges_at at (values_of (leading target xs)))) p ∙ ap (λ es. e ∷ es) (edges-leading target xs)
              | false ↦ edges-leading target xs
            ]
      ] refl

  filtered : (target : List ℕ) (o : Option ℕ) → option_filter (λ slot. leads_to target (at slot)) o ≡ slot_to target at o
  filtered target None = refl
  filtered target (Some slot) = refl

  module _ (order : List ((List ℕ × List ℕ) × ℕ)) (links : List ((List ℕ × (List ℕ × List ℕ)) × ℕ)) (counts : List ((List ℕ × List ℕ) × ℕ)) (len : ℕ) (kept : IsKept at order links counts len) where
    row_leads : (target : List ℕ) → IsStrictlySortedBy link_cmp (keys_of links) → row_of target links ≡ leading target order
    row_leads target s =
        same_by_lookups keys_total exact_keys (row_of target links) (leading target order) (sorted-row key_cmp target links s) (sorted-filter key_cmp (λ x. leads_to target (at x.1)) order kept.sorted)
        (λ q. lookup-row key_cmp target q links ∙ kept.linked target q ∙ sym (filtered target (lookup (is_at (key_cmp q)) order))
        ∙ sym (lookup-filter-values (eq_by_cmp_equiv keys_total) (λ slot. leads_to target (at slot)) q order (IsDistinct-from_sorted key_cmp (keys_of order) kept.sorted)))

    pub listed-into : (target : List ℕ) → IsStrictlySortedBy link_cmp (keys_of links) → edges_at at (values_of (row_of target links)) ≡ into_of target (edges_at at (values_of order))
    listed-into target s = ap (λ es. edges_at at (values_of es)) (row_leads target s) ∙ edges-leading target order

    leading_key : (target : List ℕ) → AllKeyed key (leading target order)
    leading_key target = all_keyed-filter key (λ x. leads_to target (at x.1)) order (all_keyed order (stand kept))

    pub listed-into-after : (target : List ℕ) (k : List ℕ × List ℕ) → IsStrictlySortedBy link_cmp (keys_of links)
        → edges_at at (values_of (filter (λ x. is_lt (key_cmp k x.0)) (row_of target links))) ≡ into_past target k (edges_at at (values_of order))
    listed-into-after target k s =
        past key (λ x. is_lt (key_cmp k x)) (row_of target links) (subst (AllKeyed key) (sym (row_leads target s)) (leading_key target))
        ∙ ap (filter (λ e. is_lt (key_cmp k (key e)))) (listed-into target s)

    pub in_order : EdgesInOrder (edges_at at (values_of order))
    in_order = subst (IsStrictlySortedBy key_cmp) (keys-keyed (edges_at at (values_of order))) (sorted-keyed at order kept.sorted (stand kept))
