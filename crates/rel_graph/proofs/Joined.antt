-- The first order with the edges in its slots, under a change of the order or of the slots.
use Rattle.std.proofs.Common.{◌≡◌, ℕ, List, [], ◌∷◌, map, Bool, true, false, cond, Option, Some, None, refl, sym, ap, ◌∙◌, Less, Equal, Greater}
use Rattle.std.specs.Option.{option_and_then}
use Rattle.std.specs.Ordering.{match_ordering}
use Rattle.std.specs.List.{AllByRecursion, cons_option}
use Rattle.std.specs.Map.{lookup, remove_entry, keys_of, values_of}
use Rattle.std.specs.BTreeMap.{is_at, insert_entry}
use Rattle.rel_graph.specs.declared.edge.Edge.{Edge}
use Rattle.rel_graph.specs.Edges.{key_cmp, key, keyed, with_edge, without_edge}
use Rattle.rel_graph.specs.Slots.{edges_at, HasKey}

module _ {P : Type 0} where
  -- an edge under a key, where there is one
  abbrev put_at : List ℕ × List ℕ → Option (Edge P) → List ((List ℕ × List ℕ) × Edge P) → List ((List ℕ × List ℕ) × Edge P)
  put_at k None es = es
  put_at k (Some e) es = (k, e) ∷ es

  -- the edges of the slots, under the keys that lead to them
  abbrev pub joined : (ℕ → Option (Edge P)) → List ((List ℕ × List ℕ) × ℕ) → List ((List ℕ × List ℕ) × Edge P)
  joined at [] = []
  joined at (x ∷ xs) = put_at x.0 (at x.1) (joined at xs)

  -- each key leads to an edge with this key
  abbrev pub AllStand : (ℕ → Option (Edge P)) → List ((List ℕ × List ℕ) × ℕ) → Type 0
  AllStand at order = AllByRecursion (λ x. HasKey (at x.1) x.0) order

  -- the slots of an order have the same edges
  abbrev pub AllSame : (ℕ → Option (Edge P)) → (ℕ → Option (Edge P)) → List ((List ℕ × List ℕ) × ℕ) → Type 0
  AllSame at at' order = AllByRecursion (λ x. at' x.1 ≡ at x.1) order

  pub values-joined : (at : ℕ → Option (Edge P)) (order : List ((List ℕ × List ℕ) × ℕ)) → values_of (joined at order) ≡ edges_at at (values_of order)
  values-joined at [] = refl
  values-joined at (x ∷ xs) =
      elim (at x.1) as (λ o. values_of (put_at x.0 o (joined at xs)) ≡ cons_option o (edges_at at (values_of xs))) [
        | None ↦ values-joined at xs
        | Some e ↦ ap (λ es. e ∷ es) (values-joined at xs)
      ]

  pub keyed-joined : (at : ℕ → Option (Edge P)) (order : List ((List ℕ × List ℕ) × ℕ)) → AllStand at order → joined at order ≡ keyed (edges_at at (values_of order))
  keyed-joined at [] a = refl
  keyed-joined at (x ∷ xs) a =
      elim (at x.1) as (λ o. HasKey o x.0 → put_at x.0 o (joined at xs) ≡ keyed (cons_option o (edges_at at (values_of xs)))) [
        | None ↦ λ h. absurd h
        | Some e ↦ λ h. ap (λ k. (k, e) ∷ joined at xs) (sym h) ∙ ap (λ es. (key e, e) ∷ es) (keyed-joined at xs a.1)
      ] a.0

  pub keys-joined : (at : ℕ → Option (Edge P)) (order : List ((List ℕ × List ℕ) × ℕ)) → AllStand at order → keys_of (joined at order) ≡ keys_of order
  keys-joined at [] a = refl
  keys-joined at (x ∷ xs) a =
      elim (at x.1) as (λ o. HasKey o x.0 → keys_of (put_at x.0 o (joined at xs)) ≡ x.0 ∷ keys_of xs) [
        | None ↦ λ h. absurd h
        | Some e ↦ λ h. ap (λ ks. x.0 ∷ ks) (keys-joined at xs a.1)
      ] a.0

  pub lookup-joined : (at : ℕ → Option (Edge P)) (test : List ℕ × List ℕ → Bool) (order : List ((List ℕ × List ℕ) × ℕ)) → AllStand at order → lookup test (joined at order) ≡ option_and_then at (lookup test order)
  lookup-joined at test [] a = refl
  lookup-joined at test (x ∷ xs) a =
      elim (at x.1) as (λ o. at x.1 ≡ o → HasKey o x.0 → lookup test (put_at x.0 o (joined at xs)) ≡ option_and_then at (cond (test x.0) (Some x.1) (lookup test xs))) [
        | None ↦ λ p h. absurd h
        | Some e ↦ λ p h. elim (test x.0) as (λ b. cond b (Some e) (lookup test (joined at xs)) ≡ option_and_then at (cond b (Some x.1) (lookup test xs))) [
          | true ↦ sym p
          | false ↦ lookup-joined at test xs a.1
        ]
      ] refl a.0

  pub joined-same : (at at' : ℕ → Option (Edge P)) (order : List ((List ℕ × List ℕ) × ℕ)) → AllSame at at' order → joined at' order ≡ joined at order
  joined-same at at' [] a = refl
  joined-same at at' (x ∷ xs) a = ap (λ o. put_at x.0 o (joined at' xs)) a.0 ∙ ap (put_at x.0 (at x.1)) (joined-same at at' xs a.1)

  pub joined-insert : (at at' : ℕ → Option (Edge P)) (k : List ℕ × List ℕ) (slot : ℕ) (e : Edge P) (order : List ((List ℕ × List ℕ) × ℕ)) → at' slot ≡ Some e → AllSame at at' order → AllStand at order
      → joined at' (insert_entry key_cmp order k slot) ≡ insert_entry key_cmp (joined at order) k e
  joined-insert at at' k slot e [] h s a = ap (λ o. put_at k o []) h
  joined-insert at at' k slot e (x ∷ xs) h s a =
      elim (at x.1) as (λ o. at x.1 ≡ o → HasKey o x.0 → joined at' (match_ordering (key_cmp k x.0) ((k, slot) ∷ x ∷ xs) ((x.0, slot) ∷ xs) (x ∷ insert_entry key_cmp xs k slot)) ≡ insert_entry key_cmp (put_at x.0 o (joined at xs)) k e) [
        | None ↦ λ p i. absurd i
        | Some y ↦ λ p i.
            elim (key_cmp k x.0) as (λ r. joined at' (match_ordering r ((k, slot) ∷ x ∷ xs) ((x.0, slot) ∷ xs) (x ∷ insert_entry key_cmp xs k slot))
            ≡ match_ordering r ((k, e) ∷ (x.0, y) ∷ joined at xs) ((x.0, e) ∷ joined at xs) ((x.0, y) ∷ insert_entry key_cmp (joined at xs) k e)) [
              | Less ↦ ap (λ o. put_at k o (joined at' (x ∷ xs))) h ∙ ap (λ es. (k, e) ∷ es) (joined-same at at' (x ∷ xs) s ∙ ap (λ o. put_at x.0 o (joined at xs)) p)
              | Equal ↦ ap (λ o. put_at x.0 o (joined at' xs)) h ∙ ap (λ es. (x.0, e) ∷ es) (joined-same at at' xs s.1)
              | Greater ↦ ap (λ o. put_at x.0 o (joined at' (insert_entry key_cmp xs k slot))) (s.0 ∙ p) ∙ ap (λ es. (x.0, y) ∷ es) (joined-insert at at' k slot e xs h s.1 a.1)
            ]
      ] refl a.0

  pub joined-remove : (at : ℕ → Option (Edge P)) (test : List ℕ × List ℕ → Bool) (order : List ((List ℕ × List ℕ) × ℕ)) → AllStand at order → joined at (remove_entry test order) ≡ remove_entry test (joined at order)
  joined-remove at test [] a = refl
  joined-remove at test (x ∷ xs) a =
      elim (at x.1) as (λ o. at x.1 ≡ o → HasKey o x.0 → joined at (cond (test x.0) xs (x ∷ remove_entry test xs)) ≡ remove_entry test (put_at x.0 o (joined at xs))) [
        | None ↦ λ p h. absurd h
        | Some e ↦ λ p h. elim (test x.0) as (λ b. joined at (cond b xs (x ∷ remove_entry test xs)) ≡ cond b (joined at xs) ((x.0, e) ∷ remove_entry test (joined at xs))) [
          | true ↦ refl
          | false ↦ ap (λ o. put_at x.0 o (joined at (remove_entry test xs))) p ∙ ap (λ es. (x.0, e) ∷ es) (joined-remove at test xs a.1)
        ]
      ] refl a.0

  -- ---- the list of edges
  pub edge_at-edges : (at : ℕ → Option (Edge P)) (k : List ℕ × List ℕ) (order : List ((List ℕ × List ℕ) × ℕ)) → AllStand at order → lookup (is_at (key_cmp k)) (keyed (edges_at at (values_of order))) ≡ option_and_then at (lookup (is_at (key_cmp k)) order)
  edge_at-edges at k order a = ap (lookup (is_at (key_cmp k))) (sym (keyed-joined at order a)) ∙ lookup-joined at (is_at (key_cmp k)) order a

  pub edges-insert : (at at' : ℕ → Option (Edge P)) (slot : ℕ) (e : Edge P) (order : List ((List ℕ × List ℕ) × ℕ)) → at' slot ≡ Some e → AllSame at at' order → AllStand at order
      → edges_at at' (values_of (insert_entry key_cmp order (key e) slot)) ≡ with_edge e (edges_at at (values_of order))
  edges-insert at at' slot e order h s a =
      sym (values-joined at' (insert_entry key_cmp order (key e) slot))
      ∙ ap values_of (joined-insert at at' (key e) slot e order h s a)
      ∙ ap (λ es. values_of (insert_entry key_cmp es (key e) e)) (keyed-joined at order a)

  pub edges-same : (at at' : ℕ → Option (Edge P)) (order : List ((List ℕ × List ℕ) × ℕ)) → AllSame at at' order → edges_at at' (values_of order) ≡ edges_at at (values_of order)
  edges-same at at' order s = sym (values-joined at' order) ∙ ap values_of (joined-same at at' order s) ∙ values-joined at order

  pub edges-remove : (at : ℕ → Option (Edge P)) (k : List ℕ × List ℕ) (order : List ((List ℕ × List ℕ) × ℕ)) → AllStand at order
      → edges_at at (values_of (remove_entry (is_at (key_cmp k)) order)) ≡ without_edge k.0 k.1 (edges_at at (values_of order))
  edges-remove at k order a =
      sym (values-joined at (remove_entry (is_at (key_cmp k)) order))
      ∙ ap values_of (joined-remove at (is_at (key_cmp k)) order a)
      ∙ ap (λ es. values_of (remove_entry (is_at (key_cmp k)) es)) (keyed-joined at order a)

  pub values-keyed : (es : List (Edge P)) → values_of (keyed es) ≡ es
  values-keyed [] = refl
  values-keyed (e ∷ es) = ap (λ xs. e ∷ xs) (values-keyed es)

  pub keys-keyed : (es : List (Edge P)) → keys_of (keyed es) ≡ map key es
  keys-keyed [] = refl
  keys-keyed (e ∷ es) = ap (λ ks. key e ∷ ks) (keys-keyed es)
