-- What `put` and `remove` leave, over the slab that the fields had, that room was made in, and that was written.
use Rattle.std.proofs.Common.{◌≡◌, ◌≢◌, ℕ, ◌+◌, ◌-◌, List, [], ◌∷◌, Bool, true, false, cond, Option, Some, None, refl, sym, ap, ◌∙◌, subst, nat_cmp, is_eq, arith}
use Rattle.std.specs.Option.{option_and, option_and_then, IsSome}
use Rattle.std.specs.Map.{lookup, remove_entry, values_of}
use Rattle.std.specs.BTreeMap.{is_at, insert_entry}
use Rattle.std.specs.Cmp.Lexicographic.{slice_cmp}
use Rattle.std.proofs.lemmas.Option.{none-some}
use Rattle.std.proofs.lemmas.Map.Lookups.{CmpEqualImpliesEq, exact_bytes, exact_pairs}
use Rattle.ordered_table.proofs.Ordered.{unlike}
use Rattle.rel_graph.proofs.Tallies.{exact_keys}
use Rattle.slab.specs.Slab.{Slab, get, Updates}
use Rattle.rel_graph.specs.declared.edge.Edge.{Edge}
use Rattle.rel_graph.specs.Edges.{key_cmp, key, edge_at, with_edge, without_edge}
use Rattle.rel_graph.specs.Slots.{link_cmp, link, tally, one_at, edges_at, HasKey, IsKept}
use Rattle.rel_graph.proofs.Joined.{edge_at-edges, edges-remove}
use Rattle.rel_graph.proofs.Steps.{stand}
use Rattle.rel_graph.proofs.Changes.{kept-same, kept-new, kept-over, kept-out, edges1, edges2, edges-out, put-new-old, put-over-old, old_linked, out-old}

exact_links : CmpEqualImpliesEq link_cmp
exact_links = exact_pairs (slice_cmp nat_cmp) key_cmp exact_bytes exact_keys

restored : (b : Bool) (before new there : Option ℕ) → (b ≡ true → before ≡ there) → cond b before (cond b new there) ≡ there
restored true before new there h = h refl
restored false before new there h = refl

remove-missing : {K X : Type 0} (test : K → Bool) (es : List (K × X)) → lookup test es ≡ None → remove_entry test es ≡ es
remove-missing test [] h = refl
remove-missing test (e ∷ es) h =
    elim (test e.0) as (λ b. cond b (Some e.1) (lookup test es) ≡ None → cond b es (e ∷ remove_entry test es) ≡ e ∷ es) [
      | true ↦ λ i. absurd (none-some e.1 (sym i))
      | false ↦ λ i. ap (λ xs. e ∷ xs) (remove-missing test es i)
    ] h

module _ {P : Type 0} where
  -- fields that hang together, the edge that was found, and the list that they are seen as
  pub record Leaves (at : ℕ → Option (Edge P)) (order : List ((List ℕ × List ℕ) × ℕ)) (links : List ((List ℕ × (List ℕ × List ℕ)) × ℕ)) (counts : List ((List ℕ × List ℕ) × ℕ)) (len : ℕ) (old found : Option (Edge P)) (seen : List (Edge P)) : Type 0 where
    pub kept : IsKept at order links counts len
    pub gives : old ≡ found
    pub edges : edges_at at (values_of order) ≡ seen

  -- room in the slab moves no edge
  pub kept-room : (S R : Slab (Edge P)) (n : ℕ) (order : List ((List ℕ × List ℕ) × ℕ)) (links : List ((List ℕ × (List ℕ × List ℕ)) × ℕ)) (counts : List ((List ℕ × List ℕ) × ℕ)) (len : ℕ) → IsKept (get S) order links counts len → R ≡ record S { capacity = n } → IsKept (get R) order links counts len
  kept-room S R n order links counts len k room = subst (λ s. IsKept (get s) order links counts len) (sym room) k

  -- an edge that was entered and left again
  pub kept-back : (S R : Slab (Edge P)) (n : ℕ) (order order1 : List ((List ℕ × List ℕ) × ℕ)) (links links1 links2 : List ((List ℕ × (List ℕ × List ℕ)) × ℕ)) (counts counts1 counts2 : List ((List ℕ × List ℕ) × ℕ)) (len : ℕ) → IsKept (get S) order links counts len → R ≡ record S { capacity = n } → order1 ≡ order
      → (e : Edge P) (slot : ℕ) (before : Option ℕ) → before ≡ lookup (is_at (link_cmp (link e))) links
      → ((q : List ℕ × (List ℕ × List ℕ)) → lookup (is_at (link_cmp q)) links1 ≡ cond (is_eq (link_cmp q (link e))) (Some slot) (lookup (is_at (link_cmp q)) links))
      → ((q : List ℕ × List ℕ) → tally counts1 q ≡ tally counts q + one_at (e.source, e.name) q)
      → ((q : List ℕ × (List ℕ × List ℕ)) → lookup (is_at (link_cmp q)) links2 ≡ cond (is_eq (link_cmp q (link e))) before (lookup (is_at (link_cmp q)) links1))
      → ((q : List ℕ × List ℕ) → tally counts2 q ≡ tally counts1 q - one_at (e.source, e.name) q)
      → IsKept (get R) order1 links2 counts2 len
  kept-back S R n order order1 links links1 links2 counts counts1 counts2 len k room same e slot before b l t l' t' =
      subst (λ o. IsKept (get R) o links2 counts2 len) (sym same)
      (kept-same (kept-room S R n order links counts len k room) links2 counts2
      (λ q. l' q ∙ ap (cond (is_eq (link_cmp q (link e))) before) (l q)
      ∙ restored (is_eq (link_cmp q (link e))) before (Some slot) (lookup (is_at (link_cmp q)) links) (λ h. b ∙ ap (λ x. lookup (is_at (link_cmp x)) links) (sym (exact_links q (link e) (unlike (link_cmp q (link e)) h)))))
      (λ q. let x = t q in let y = t' q in omega arith))

  module _ (S R S1 : Slab (Edge P)) (n : ℕ) (order order1 : List ((List ℕ × List ℕ) × ℕ)) (links links1 : List ((List ℕ × (List ℕ × List ℕ)) × ℕ)) (counts counts1 : List ((List ℕ × List ℕ) × ℕ)) (len : ℕ) (kept : IsKept (get S) order links counts len)
      (e : Edge P) (id : List ℕ) (slot written : ℕ) (now : List (Edge P)) (view_is : edges_at (get S) (values_of order) ≡ now)
      (room : R ≡ record S { capacity = n }) (vacant : get R slot ≡ None) (same_slot : written ≡ slot) (updates : Updates R S1 written (Some e))
      (copied : id ≡ e.id) (entered : order1 ≡ insert_entry key_cmp order (e.source, id) slot)
      (linked : (q : List ℕ × (List ℕ × List ℕ)) → lookup (is_at (link_cmp q)) links1 ≡ cond (is_eq (link_cmp q (link e))) (Some slot) (lookup (is_at (link_cmp q)) links))
      (raised : (q : List ℕ × List ℕ) → tally counts1 q ≡ tally counts q + one_at (e.source, e.name) q) where
    kept_room : IsKept (get R) order links counts len
    kept_room = kept-room S R n order links counts len kept room

    seen : edges_at (get R) (values_of order) ≡ now
    seen = ap (λ s. edges_at (get s) (values_of order)) room ∙ view_is

    changed : get S1 slot ≡ Some e
    changed = ap (get S1) (sym same_slot) ∙ updates.changed

    others : (o : ℕ) → o ≢ slot → get S1 o ≡ get R o
    others o apart = updates.others o (λ p. apart (p ∙ same_slot))

    order_is : order1 ≡ insert_entry key_cmp order (key e) slot
    order_is = entered ∙ ap (λ i. insert_entry key_cmp order (e.source, i) slot) copied

    looked : (o : Option ℕ) → o ≡ lookup (is_at (key_cmp (e.source, id))) order → lookup (is_at (key_cmp (key e))) order ≡ o
    looked o h = ap (λ i. lookup (is_at (key_cmp (e.source, i))) order) (sym copied) ∙ sym h

    pub left-new : None ≡ lookup (is_at (key_cmp (e.source, id))) order → Leaves (get S1) order1 links1 counts1 (len + 1) None (edge_at e.source e.id now) (with_edge e now)
    left-new none =
        let absent : lookup (is_at (key_cmp (key e))) order ≡ None = looked None none in
        record {
          kept = subst (λ o. IsKept (get S1) o links1 counts1 (len + 1)) (sym order_is) (kept-new (get R) (get S1) order links counts len kept_room e slot vacant changed others links1 counts1 linked raised absent);
          gives = put-new-old (get R) (get S1) order links counts len kept_room e slot vacant changed others links1 counts1 linked raised absent ∙ ap (edge_at e.source e.id) seen;
          edges = ap (λ o. edges_at (get S1) (values_of o)) order_is ∙ edges1 (get R) (get S1) order links counts len kept_room e slot vacant changed others ∙ ap (with_edge e) seen;
        }

    module _ (place : ℕ) (some : Some place ≡ lookup (is_at (key_cmp (e.source, id))) order) where
      there : lookup (is_at (key_cmp (key e))) order ≡ Some place
      there = looked (Some place) some

      -- the slot of the edge that is replaced still has it
      has_old : HasKey (get R place) (key e)
      has_old = kept_room.stands (key e) place there

      not_slot : place ≢ slot
      not_slot p = subst (λ o. HasKey o (key e)) (ap (get R) p ∙ vacant) has_old

      is_some_and : (o : Option (Edge P)) (k : List ℕ × List ℕ) → HasKey o k → IsSome o
      is_some_and None k h = absurd h
      is_some_and (Some x) k h = refl

      pub has_place : IsSome (get S1 place)
      has_place = subst IsSome (sym (others place not_slot)) (is_some_and (get R place) (key e) has_old)

      module _ (old : Edge P) (was : get S1 place ≡ Some old) where
        pub has_link : IsSome (lookup (is_at (link_cmp (link old))) links1)
        has_link = old_linked (get R) (get S1) order links counts len kept_room e slot vacant changed others links1 counts1 linked raised place old there was

        pub left-over : (S2 : Slab (Edge P)) → Updates S1 S2 place None → (before slot_left : Option ℕ) (links2 : List ((List ℕ × (List ℕ × List ℕ)) × ℕ)) (counts2 : List ((List ℕ × List ℕ) × ℕ)) → before ≡ lookup (is_at (link_cmp (link e))) links → slot_left ≡ option_and before (Some slot)
            → ((q : List ℕ × (List ℕ × List ℕ)) → lookup (is_at (link_cmp q)) links2 ≡ cond (is_eq (link_cmp q (link old))) slot_left (lookup (is_at (link_cmp q)) links1))
            → ((q : List ℕ × List ℕ) → tally counts2 q ≡ tally counts1 q - one_at (old.source, old.name) q)
            → Leaves (get S2) order1 links2 counts2 len (Some old) (edge_at e.source e.id now) (with_edge e now)
        left-over S2 gone before slot_left links2 counts2 b l r t = record {
          kept = subst (λ o. IsKept (get S2) o links2 counts2 len) (sym order_is)
              (kept-over (get R) (get S1) order links counts len kept_room e slot vacant changed others links1 counts1 linked raised place old there was (get S2) gone.others before slot_left links2 counts2 b l r t);
          gives = put-over-old (get R) (get S1) order links counts len kept_room e slot vacant changed others links1 counts1 linked raised place old there was ∙ ap (edge_at e.source e.id) seen;
          edges = ap (λ o. edges_at (get S2) (values_of o)) order_is
              ∙ edges2 (get R) (get S1) order links counts len kept_room e slot vacant changed others links1 counts1 linked raised place old there was (get S2) gone.others
              ∙ ap (with_edge e) seen;
        }

  -- ---- taking out
  module _ (S : Slab (Edge P)) (order order1 : List ((List ℕ × List ℕ) × ℕ)) (links : List ((List ℕ × (List ℕ × List ℕ)) × ℕ)) (counts : List ((List ℕ × List ℕ) × ℕ)) (len : ℕ) (kept : IsKept (get S) order links counts len)
      (k : List ℕ × List ℕ) (now : List (Edge P)) (view_is : edges_at (get S) (values_of order) ≡ now) (entered : order1 ≡ remove_entry (is_at (key_cmp k)) order) where
    pub left-none : None ≡ lookup (is_at (key_cmp k)) order → Leaves (get S) order1 links counts len None (edge_at k.0 k.1 now) (without_edge k.0 k.1 now)
    left-none none =
        let unchanged : order1 ≡ order = entered ∙ remove-missing (is_at (key_cmp k)) order (sym none) in
        record {
          kept = subst (λ o. IsKept (get S) o links counts len) (sym unchanged) kept;
          gives = sym (edge_at-edges (get S) k order (stand kept) ∙ ap (option_and_then (get S)) (sym none)) ∙ ap (edge_at k.0 k.1) view_is;
          edges = ap (λ o. edges_at (get S) (values_of o)) entered ∙ edges-remove (get S) k order (stand kept) ∙ ap (without_edge k.0 k.1) view_is;
        }

    module _ (place : ℕ) (some : Some place ≡ lookup (is_at (key_cmp k)) order) where
      found_some : (o : Option (Edge P)) → HasKey o k → IsSome o
      found_some None h = absurd h
      found_some (Some x) h = refl

      pub has_edge : IsSome (get S place)
      has_edge = found_some (get S place) (kept.stands k place (sym some))

      pub left-out : (old : Edge P) (S1 : Slab (Edge P)) (links1 : List ((List ℕ × (List ℕ × List ℕ)) × ℕ)) (counts1 : List ((List ℕ × List ℕ) × ℕ)) → get S place ≡ Some old → Updates S S1 place None
          → ((q : List ℕ × (List ℕ × List ℕ)) → lookup (is_at (link_cmp q)) links1 ≡ cond (is_eq (link_cmp q (link old))) None (lookup (is_at (link_cmp q)) links))
          → ((q : List ℕ × List ℕ) → tally counts1 q ≡ tally counts q - one_at (old.source, old.name) q)
          → Leaves (get S1) order1 links1 counts1 (len - 1) (Some old) (edge_at k.0 k.1 now) (without_edge k.0 k.1 now)
      left-out old S1 links1 counts1 was gone l t = record {
        kept = subst (λ o. IsKept (get S1) o links1 counts1 (len - 1)) (sym entered) (kept-out (get S) (get S1) order links counts len kept k place old (sym some) was gone.others links1 counts1 l t);
        gives = out-old (get S) (get S1) order links counts len kept k place old (sym some) was gone.others ∙ ap (edge_at k.0 k.1) view_is;
        edges = ap (λ o. edges_at (get S1) (values_of o)) entered ∙ edges-out (get S) (get S1) order links counts len kept k place old (sym some) was gone.others ∙ ap (without_edge k.0 k.1) view_is;
      }
