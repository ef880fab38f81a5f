-- Edges where one comes, takes the place of another, or goes: their order, look-ups by key, and counts by source and name.
use Rattle.std.proofs.Common.{◌≡◌, ℕ, ◌+◌, ◌≤◌, List, [], ◌∷◌, length, Bool, true, false, cond, not, ◌&&◌, bytes_eq, Some, None, refl, sym, ap, ◌∙◌, subst, Ordering, Less, Equal, Greater, is_eq, true≢false, arith}
use Rattle.std.specs.Ordering.{ordering_then}
use Rattle.std.specs.List.{AllByRecursion, filter, count_by}
use Rattle.std.specs.Map.{lookup}
use Rattle.std.specs.BTreeMap.{is_at}
use Rattle.std.proofs.lemmas.Cmp.{eq_by_cmp_equiv}
use Rattle.std.specs.Prelude.{Contains}
use Rattle.std.proofs.lemmas.Option.{same_Some, none-some}
use Rattle.model_life.proofs.sets.Apart.{contains_head, contains_tail}
use Rattle.std.proofs.lemmas.List.Sums.{sum_by-cons, length-filter}
use Rattle.ordered_table.proofs.Flat.{C}
use Rattle.ordered_table.proofs.Kept.{all_by_lookups}
use Rattle.rel_graph.specs.declared.edge.Edge.{Edge}
use Rattle.rel_graph.specs.Edges.{key_cmp, key, keyed, EdgesInOrder, edge_at, with_edge, without_edge, is_named, named}
use Rattle.rel_graph.proofs.Tallies.{keys_total, exact_keys, same_key}
use Rattle.rel_graph.proofs.Steps.{sum-over}
use Rattle.graph_steps.proofs.invariants.Keyed.{tests, sorted-keys, sorted-with, sorted-without, at-with, at-without, sum-with, sum-without}

-- ---- tests
both_same : (a b : Ordering) → is_eq (ordering_then a b) ≡ (is_eq a && is_eq b)
both_same Less b = refl
both_same Equal b = refl
both_same Greater b = refl

past_id : (s n d : Bool) → (s && d) ≡ false → (s && n) ≡ (s && (n && not d))
past_id true true true e = absurd (true≢false e)
past_id true true false e = refl
past_id true false d e = refl
past_id false n d e = refl

abbrev pub is_other : List ℕ → List ℕ → List ℕ → {P : Type 0} → Edge P → Bool
is_other source id name l = bytes_eq l.source source && (bytes_eq l.name name && not (bytes_eq l.id id))

module _ {P : Type 0} where
  -- An edge has the source and the name exactly where their bytes are equal.
  pub named_test : (source name : List ℕ) (l : Edge P) → is_named (source, name) l ≡ (bytes_eq l.source source && bytes_eq l.name name)
  named_test source name l =
      both_same (C source l.source) (C name l.name) ∙ ap (λ b. b && is_eq (C name l.name)) (tests source l.source) ∙ ap (λ b. bytes_eq l.source source && b) (tests name l.name)

  key_test : (source id : List ℕ) (l : Edge P) → is_eq (key_cmp (source, id) (key l)) ≡ (bytes_eq l.source source && bytes_eq l.id id)
  key_test source id l =
      both_same (C source l.source) (C id l.id) ∙ ap (λ b. b && is_eq (C id l.id)) (tests source l.source) ∙ ap (λ b. bytes_eq l.source source && b) (tests id l.id)

  other_test : (source id name : List ℕ) (l : Edge P) → is_eq (key_cmp (source, id) (key l)) ≡ false → is_named (source, name) l ≡ is_other source id name l
  other_test source id name l apart =
      named_test source name l ∙ past_id (bytes_eq l.source source) (bytes_eq l.name name) (bytes_eq l.id id) (sym (key_test source id l) ∙ apart)

  -- ---- order
  pub in-order-with : (e : Edge P) (es : List (Edge P)) → EdgesInOrder es → EdgesInOrder (with_edge e es)
  in-order-with e es s = sorted-with key key_cmp keys_total exact_keys e es s

  pub in-order-without : (source id : List ℕ) (es : List (Edge P)) → EdgesInOrder es → EdgesInOrder (without_edge source id es)
  in-order-without source id es s = sorted-without key key_cmp keys_total (is_at (key_cmp (source, id))) es s

  -- ---- look-ups
  pub edge-with : (e : Edge P) (es : List (Edge P)) (source id : List ℕ) → edge_at source id (with_edge e es) ≡ cond (is_eq (key_cmp (source, id) (key e))) (Some e) (edge_at source id es)
  edge-with e es source id = at-with key key_cmp keys_total exact_keys e es (source, id)

  pub edge-without : (s i : List ℕ) (es : List (Edge P)) → EdgesInOrder es → (source id : List ℕ) → edge_at source id (without_edge s i es) ≡ cond (is_eq (key_cmp (source, id) (s, i))) None (edge_at source id es)
  edge-without s i es o source id = at-without key key_cmp keys_total (s, i) es o (source, id)

  -- ---- counts
  abbrev one : (Edge P → Bool) → Edge P → ℕ
  one p e = cond (p e) 1 0

  pub named-without : (source name s i : List ℕ) (es : List (Edge P)) → named source name (without_edge s i es) ≤ named source name es
  named-without source name s i es = sum-without key (one (is_named (source, name))) (is_at (key_cmp (s, i))) es

  -- of another source or name than the edge that comes
  pub named-other : (source name : List ℕ) (e : Edge P) (es : List (Edge P)) → EdgesInOrder es → is_named (source, name) e ≡ false → named source name (with_edge e es) ≤ named source name es
  named-other source name e es o other =
      let put = sum-with key key_cmp keys_total (one (is_named (source, name))) e es o in
      let less = sum-without key (one (is_named (source, name))) (is_at (key_cmp (key e))) es in
      let none : one (is_named (source, name)) e ≡ 0 = ap (λ (b : Bool). cond b 1 0) other in
      omega (arith, put, less, none)

  -- in the place of one of its source and name
  pub named-over : (source name : List ℕ) (e old : Edge P) (es : List (Edge P)) → EdgesInOrder es → edge_at e.source e.id es ≡ Some old → old.source ≡ e.source → old.name ≡ e.name → named source name (with_edge e es) ≡ named source name es
  named-over source name e old es o found from called =
      let swapped = sum-over (one (is_named (source, name))) e old es (with_edge e es) (sorted-keys key key_cmp es o) found refl in
      let same : one (is_named (source, name)) old ≡ one (is_named (source, name)) e =
      ap (λ (a : List ℕ). cond (is_eq (key_cmp (source, name) (a, old.name))) 1 0) from ∙ ap (λ (b : List ℕ). cond (is_eq (key_cmp (source, name) (e.source, b))) 1 0) called in
      omega (arith, swapped, same)

  alike : (p q : Edge P → Bool) (es : List (Edge P)) → AllByRecursion (λ l. p l ≡ q l) es → count_by p es ≡ count_by q es
  alike p q [] all = refl
  alike p q (e ∷ es) all =
      sum_by-cons (one p) e es ∙ ap (λ (b : Bool). cond b 1 0 + count_by p es) all.0 ∙ ap (λ (n : ℕ). one q e + n) (alike p q es all.1) ∙ sym (sum_by-cons (one q) e es)

  unkeyed : (Holds : Edge P → Type 0) (es : List (Edge P)) → AllByRecursion (λ (x : (List ℕ × List ℕ) × Edge P). Holds x.1) (keyed es) → AllByRecursion Holds es
  unkeyed Holds [] all = tt
  unkeyed Holds (e ∷ es) all = (all.0, unkeyed Holds es all.1)

  keyed_alike : (H : List ℕ × List ℕ → Type 0) (es : List (Edge P)) → AllByRecursion (λ (x : (List ℕ × List ℕ) × Edge P). H x.0) (keyed es) → AllByRecursion (λ (e : Edge P). H (key e)) es
  keyed_alike H [] all = tt
  keyed_alike H (e ∷ es) all = (all.0, keyed_alike H es all.1)

  -- none that is left has the key
  none_left : (s i : List ℕ) (es : List (Edge P)) → EdgesInOrder es → AllByRecursion (λ (e : Edge P). is_eq (key_cmp (s, i) (key e)) ≡ false) (without_edge s i es)
  none_left s i es o =
      keyed_alike (λ q. is_eq (key_cmp (s, i) q) ≡ false) (without_edge s i es)
      (all_by_lookups keys_total (λ q v. is_eq (key_cmp (s, i) q) ≡ false) (keyed (without_edge s i es)) (sorted-keys key key_cmp (without_edge s i es) (in-order-without s i es o)) apart)
    where
      apart : (q : List ℕ × List ℕ) (v : Edge P) → lookup (is_at (key_cmp q)) (keyed (without_edge s i es)) ≡ Some v → is_eq (key_cmp (s, i) q) ≡ false
      apart q v found =
          (eq_by_cmp_equiv keys_total).symm (s, i) q
          ∙ (elim (is_eq (key_cmp q (s, i))) as (λ b. cond b None (lookup (is_at (key_cmp q)) (keyed es)) ≡ Some v → b ≡ false) [
            | true ↦ λ h. absurd (none-some v h)
            | false ↦ λ h. refl
          ] (sym (at-without key key_cmp keys_total (s, i) es o q) ∙ found))

  -- of its own source and name: at most one more than the others
  pub named-own : (e : Edge P) (es : List (Edge P)) → EdgesInOrder es → named e.source e.name (with_edge e es) ≤ length (filter (is_other e.source e.id e.name) es) + 1
  named-own e es o =
      let mine = one (is_named (e.source, e.name)) in
      let put = sum-with key key_cmp keys_total (one (is_named (e.source, e.name))) e es o in
      let left : count_by (is_named (e.source, e.name)) (without_edge e.source e.id es) ≡ count_by (is_other e.source e.id e.name) (without_edge e.source e.id es) =
      alike (is_named (e.source, e.name)) (is_other e.source e.id e.name) (without_edge e.source e.id es) (others (without_edge e.source e.id es) (none_left e.source e.id es o)) in
      let less = sum-without key (one (is_other e.source e.id e.name)) (is_at (key_cmp (key e))) es in
      let long = length-filter (is_other e.source e.id e.name) es in
      let most : one (is_named (e.source, e.name)) e ≤ 1 = at_most (is_named (e.source, e.name) e) in
      omega (arith, put, left, less, long, most)
    where
      at_most : (b : Bool) → cond b 1 0 ≤ 1
      at_most true = omega arith
      at_most false = omega arith

      others : (ls : List (Edge P)) → AllByRecursion (λ (l : Edge P). is_eq (key_cmp (e.source, e.id) (key l)) ≡ false) ls → AllByRecursion (λ l. is_named (e.source, e.name) l ≡ is_other e.source e.id e.name l) ls
      others [] all = tt
      others (l ∷ ls) all = (other_test e.source e.id e.name l all.0, others ls all.1)

  -- ---- an edge that was found
  keyed_there : (source id : List ℕ) (es : List (Edge P)) (e : Edge P) → edge_at source id es ≡ Some e → (key e ≡ (source, id)) × Contains es e
  keyed_there source id [] e h = absurd (none-some e h)
  keyed_there source id (x ∷ es) e h =
      elim (is_eq (key_cmp (source, id) (key x))) as (λ b. is_eq (key_cmp (source, id) (key x)) ≡ b → cond b (Some x) (edge_at source id es) ≡ Some e → (key e ≡ (source, id)) × Contains (x ∷ es) e) [
        | true ↦ λ t g. let same : x ≡ e = same_Some x e g in (sym (same_key (source, id) (key x) t ∙ ap key same), subst (Contains (x ∷ es)) same (contains_head x es))
        | false ↦ λ t g. let later = keyed_there source id es e g in (later.0, contains_tail x es e later.1)
      ] refl h

  pub edge_there : (source id : List ℕ) (es : List (Edge P)) (e : Edge P) → edge_at source id es ≡ Some e → (e.source ≡ source) × (e.id ≡ id) × Contains es e
  edge_there source id es e h = let there = keyed_there source id es e h in (ap (λ (k : List ℕ × List ℕ). k.0) there.0, ap (λ (k : List ℕ × List ℕ). k.1) there.0, there.1)
