-- Relationships of a source and a name, without the one that has an id.
use Rattle.std.proofs.Common.{◌≡◌, ℕ, ◌+◌, ◌<◌, ◌≤◌, List, [], ◌∷◌, length, Bool, true, false, cond, not, ◌&&◌, bytes_eq, Option, Some, None, unwrap_or, refl, sym, ap, ◌∙◌, is_eq, arith}
use Rattle.std.specs.Option.{option_map}
use Rattle.std.specs.List.{AllByRecursion, filter, count_by, sum_by}
use Rattle.std.specs.Map.{lookup, values_of}
use Rattle.std.specs.BTreeMap.{is_at}
use Rattle.std.proofs.lemmas.Cmp.{eq_by_cmp_equiv}
use Rattle.std.proofs.lemmas.List.{length-map}
use Rattle.std.proofs.lemmas.List.Sums.{sum_by-cons, length-filter}
use Rattle.std.proofs.lemmas.Map.Entries.{sum_by-remove_entry}
use Rattle.std.proofs.lemmas.Option.{same_Some, none-some}
use Rattle.std.proofs.lemmas.Slice.Eq.{bytes_eq-Decides}
use Rattle.ordered_table.proofs.Kept.{all_by_lookups}
use Rattle.dtdl_terms.specs.TermViews.{kind_term}
use Rattle.dtdl_terms.specs.declared.resolved.ResolvedContent.{ResolvedContent}
use Rattle.rel_graph.specs.declared.edge.Edge.{Edge}
use Rattle.rel_graph.specs.Edges.{key_cmp, key, keyed, EdgesInOrder, edge_at, without_edge, is_named, named}
use Rattle.rel_graph.proofs.Tallies.{keys_total}
use Rattle.graph_asks.specs.declared.refusal.Refusal.TheVariants as refusals
use Rattle.graph_steps.specs.LinkAsks.{Multiplicity, others_named}
use Rattle.graph_steps.specs.States.{State}
use Rattle.graph_steps.specs.Typed.{most_of}
use Rattle.graph_steps.proofs.invariants.Edges.{is_other, named_test, edge_there, in-order-without}
use Rattle.graph_steps.proofs.invariants.Keyed.{sorted-keys, values-entries, at-without}
use Rattle.graph_steps.specs.held.Held.{Holding, link_of, state_of}
use Rattle.graph_steps.specs.declared.held.stored.Stored.{Stored}
use Rattle.graph_steps.proofs.held.Viewed.{filter-map}
use Rattle.graph_steps.specs.held.Judged.{Unrefused}

-- ---- tests
itself : (a : List ℕ) → bytes_eq a a ≡ true
itself a = (bytes_eq-Decides a a).1 refl

both_eq : (source id : List ℕ) (s i : List ℕ) → is_eq (key_cmp (source, id) (s, i)) ≡ (bytes_eq s source && bytes_eq i id)
both_eq source id s i = named_test {P = ℕ} source id (record { source = s; id = i; name = i; target = i; payload = 0 })

past_id : (s n d : Bool) → (s && d) ≡ false → (s && n) ≡ (s && (n && not d))
past_id true true true e = absurd (let h : true ≡ false = e in cc)
past_id true true false e = refl
past_id true false d e = refl
past_id false n d e = refl

own_id : (s n : Bool) → (s && (n && not true)) ≡ false
own_id true true = refl
own_id true false = refl
own_id false n = refl

module _ {P : Type 0} where
  abbrev one : (Edge P → Bool) → Edge P → ℕ
  one p e = cond (p e) 1 0

  alike : (p q : Edge P → Bool) (es : List (Edge P)) → AllByRecursion (λ l. p l ≡ q l) es → count_by p es ≡ count_by q es
  alike p q [] all = refl
  alike p q (e ∷ es) all =
      sum_by-cons (one p) e es ∙ ap (λ (b : Bool). cond b 1 0 + count_by p es) all.0 ∙ ap (λ (n : ℕ). one q e + n) (alike p q es all.1) ∙ sym (sum_by-cons (one q) e es)

  unkeyed : (H : List ℕ × List ℕ → Type 0) (es : List (Edge P)) → AllByRecursion (λ (x : (List ℕ × List ℕ) × Edge P). H x.0) (keyed es) → AllByRecursion (λ (e : Edge P). H (key e)) es
  unkeyed H [] all = tt
  unkeyed H (e ∷ es) all = (all.0, unkeyed H es all.1)

  module _ (source id name : List ℕ) (es : List (Edge P)) (o : EdgesInOrder es) where
    -- none that is left has the key
    none_left : AllByRecursion (λ (e : Edge P). is_eq (key_cmp (source, id) (key e)) ≡ false) (without_edge source id es)
    none_left =
        unkeyed (λ q. is_eq (key_cmp (source, id) q) ≡ false) (without_edge source id es)
        (all_by_lookups keys_total (λ q v. is_eq (key_cmp (source, id) q) ≡ false) (keyed (without_edge source id es)) (sorted-keys key key_cmp (without_edge source id es) (in-order-without source id es o)) apart)
      where
        apart : (q : List ℕ × List ℕ) (v : Edge P) → lookup (is_at (key_cmp q)) (keyed (without_edge source id es)) ≡ Some v → is_eq (key_cmp (source, id) q) ≡ false
        apart q v found =
            (eq_by_cmp_equiv keys_total).symm (source, id) q
            ∙ (elim (is_eq (key_cmp q (source, id))) as (λ b. cond b None (lookup (is_at (key_cmp q)) (keyed es)) ≡ Some v → b ≡ false) [
              | true ↦ λ h. absurd (none-some v h)
              | false ↦ λ h. refl
            ] (sym (at-without key key_cmp keys_total (source, id) es o q) ∙ found))

    others_left : (ls : List (Edge P)) → AllByRecursion (λ (e : Edge P). is_eq (key_cmp (source, id) (key e)) ≡ false) ls → AllByRecursion (λ l. is_named (source, name) l ≡ is_other source id name l) ls
    others_left [] all = tt
    others_left (l ∷ ls) all = (
      named_test source name l ∙ past_id (bytes_eq l.source source) (bytes_eq l.name name) (bytes_eq l.id id) (sym (both_eq source id l.source l.id) ∙ all.0),
      others_left ls all.1,
    )

    -- the one with the id, where there is one, is no other
    not_other : (found : Option (Edge P)) → edge_at source id es ≡ found → unwrap_or (option_map (one (is_other source id name)) found) 0 ≡ 0
    not_other None e = refl
    not_other (Some x) e =
        let mine : bytes_eq x.id id ≡ true = ap (λ i. bytes_eq i id) (edge_there source id es x e).1 ∙ itself id in
        ap (λ b. cond (bytes_eq x.source source && (bytes_eq x.name name && not b)) 1 0) mine
        ∙ ap (λ b. cond b 1 0) (own_id (bytes_eq x.source source) (bytes_eq x.name name))

    counted : named source name es ≡ length (filter (is_other source id name) es) + unwrap_or (option_map (one (is_named (source, name))) (edge_at source id es)) 0
    counted =
        let all = sum_by-remove_entry (one (is_named (source, name))) (is_at (key_cmp (source, id))) (keyed es) in
        let all_same : sum_by (one (is_named (source, name))) (values_of (keyed es)) ≡ named source name es = ap (sum_by (one (is_named (source, name)))) (values-entries key es) in
        let rest = sum_by-remove_entry (one (is_other source id name)) (is_at (key_cmp (source, id))) (keyed es) in
        let rest_same : sum_by (one (is_other source id name)) (values_of (keyed es)) ≡ count_by (is_other source id name) es = ap (sum_by (one (is_other source id name))) (values-entries key es) in
        let left : count_by (is_named (source, name)) (without_edge source id es) ≡ count_by (is_other source id name) (without_edge source id es) =
        alike (is_named (source, name)) (is_other source id name) (without_edge source id es) (others_left (without_edge source id es) none_left) in
        let none = not_other (edge_at source id es) refl in
        let long = length-filter (is_other source id name) es in
        omega (arith, all, all_same, rest, rest_same, left, none, long)

    pub count_free : edge_at source id es ≡ None → named source name es ≡ length (filter (is_other source id name) es)
    count_free none =
        let all = counted in
        let zero_there : unwrap_or (option_map (one (is_named (source, name))) (edge_at source id es)) 0 ≡ 0 = ap (λ o. unwrap_or (option_map (one (is_named (source, name))) o) 0) none in
        omega (arith, all, zero_there)

    found_named : (x : Edge P) → edge_at source id es ≡ Some x → is_named (source, name) x ≡ bytes_eq x.name name
    found_named x e = named_test source name x ∙ ap (λ s. bytes_eq s source && bytes_eq x.name name) (edge_there source id es x e).0 ∙ ap (λ b. b && bytes_eq x.name name) (itself source)

    count_with : (x : Edge P) (b : Bool) → edge_at source id es ≡ Some x → bytes_eq x.name name ≡ b → named source name es ≡ length (filter (is_other source id name) es) + cond b 1 0
    count_with x b e called =
        let all = counted in
        let one_there : unwrap_or (option_map (one (is_named (source, name))) (edge_at source id es)) 0 ≡ cond b 1 0 =
        ap (λ o. unwrap_or (option_map (one (is_named (source, name))) o) 0) e ∙ ap (λ t. cond t 1 0) (found_named x e ∙ called) in
        omega (arith, all, one_there)

    pub count_same : (x : Edge P) → edge_at source id es ≡ Some x → bytes_eq x.name name ≡ true → named source name es ≡ length (filter (is_other source id name) es) + 1
    count_same x e called = count_with x true e called

    pub count_else : (x : Edge P) → edge_at source id es ≡ Some x → bytes_eq x.name name ≡ false → named source name es ≡ length (filter (is_other source id name) es)
    count_else x e called = let with_none = count_with x false e called in omega (arith, with_none)

-- the others of what is held are those of its state
others_seen : (h : Holding) (source id name : List ℕ) → length (others_named (state_of h) source id name) ≡ length (filter (is_other source id name) h.links)
others_seen h source id name = ap length (filter-map link_of (is_other source id name) h.links) ∙ length-map (filter (is_other source id name) h.links) link_of

module _ (h : Holding) (source id name : List ℕ) (es : List (Edge Stored)) (same : es ≡ h.links) (o : EdgesInOrder es) where
  seen : length (filter (is_other source id name) es) ≡ length (others_named (state_of h) source id name)
  seen = ap (λ (xs : List (Edge Stored)). length (filter (is_other source id name) xs)) same ∙ sym (others_seen h source id name)

  pub held_free : edge_at source id es ≡ None → named source name es ≡ length (others_named (state_of h) source id name)
  held_free none = count_free source id name es o none ∙ seen

  pub held_same : (x : Edge Stored) → edge_at source id es ≡ Some x → bytes_eq x.name name ≡ true → named source name es ≡ length (others_named (state_of h) source id name) + 1
  held_same x found called = count_same source id name es o x found called ∙ ap (λ n. n + 1) seen

  pub held_else : (x : Edge Stored) → edge_at source id es ≡ Some x → bytes_eq x.name name ≡ false → named source name es ≡ length (others_named (state_of h) source id name)
  held_else x found called = count_else source id name es o x found called ∙ seen

-- ---- the refusal
module _ (s : State) (c : ResolvedContent) (source id name : List ℕ) where
  pub no_most : most_of (kind_term c.content.kind) ≡ None → Unrefused (Multiplicity s (Some c) source id name)
  no_most none r h = none-some h.0 (sym none ∙ h.1)

  module _ (most : ℕ) (is : most_of (kind_term c.content.kind) ≡ Some most) where
    pub too_many : most ≤ length (others_named s source id name) → Multiplicity s (Some c) source id name (refusals.Multiplicity most)
    too_many many = (most, is, many, refl)

    pub few_enough : length (others_named s source id name) < most → Unrefused (Multiplicity s (Some c) source id name)
    few_enough few r h =
        let same : h.0 ≡ most = same_Some h.0 most (sym h.1 ∙ is) in
        let many = h.2 in
        omega (arith, few, same, many)
