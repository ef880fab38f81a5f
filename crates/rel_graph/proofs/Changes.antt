-- The fields of the edges after an edge was put in, put over another, handed back or taken out.
use Rattle.std.proofs.Common.{◌≡◌, ◌≢◌, ℕ, ◌+◌, ◌-◌, List, Bool, true, false, cond, Option, Some, None, refl, sym, ap, ◌∙◌, subst, is_eq, arith, ⊎_elim}
use Rattle.std.specs.Option.{option_and, option_and_then, IsSome}
use Rattle.std.specs.List.Sorted.{IsStrictlySortedBy}
use Rattle.std.specs.Map.{lookup, remove_entry, keys_of, values_of}
use Rattle.std.specs.BTreeMap.{is_at, insert_entry}
use Rattle.std.proofs.lemmas.Bool.{cases_Bool}
use Rattle.std.proofs.lemmas.Cmp.{tied_itself, eq_by_cmp_equiv}
use Rattle.std.proofs.lemmas.Option.{same_Some, none-some}
use Rattle.std.proofs.lemmas.Map.Lookups.{exact_bytes}
use Rattle.ordered_table.proofs.Flat.{C, c_total}
use Rattle.ordered_table.proofs.Ordered.{lookup-insert, unlike}
use Rattle.ordered_table.proofs.Kept.{sorted-insert, sorted-remove, lookup-removed, all_by_lookups}
use Rattle.rel_graph.specs.declared.edge.Edge.{Edge}
use Rattle.rel_graph.specs.Edges.{key_cmp, key, keyed, is_named, with_edge, without_edge}
use Rattle.rel_graph.specs.Slots.{link_cmp, link, tally, one_at, edges_at, HasKey, leads_to, slot_to, IsKept}
use Rattle.rel_graph.proofs.Tallies.{keys_total}
use Rattle.rel_graph.proofs.Joined.{AllSame, edge_at-edges, edges-insert, edges-same, edges-remove}
use Rattle.rel_graph.proofs.Steps.{stand, sorted-keyed, fresh, own_key, other_slot, stands-step, linked-step, length_as_sum, sum-new, sum-over, sum-out, link_else, link_here}

-- the link of the edge that left leads to the new slot, where both edges have one target, and to none otherwise
over_links : (a b c : Bool) (slot place : ℕ) → (a ≡ true → c ≡ b) → cond a (cond c (Some slot) None) (cond b (Some slot) (cond a (Some place) None)) ≡ cond b (Some slot) None
over_links true b c slot place h = ap (λ x. cond x (Some slot) None) (h refl)
over_links false b c slot place h = refl

gone_links : (a : Bool) (place : ℕ) → cond a None (cond a (Some place) None) ≡ None
gone_links true place = refl
gone_links false place = refl

in_either : (a : Bool) (slot place : ℕ) → IsSome (cond a (Some slot) (Some place))
in_either true slot place = refl
in_either false slot place = refl

flip_text : (a b : List ℕ) → is_eq (C a b) ≡ is_eq (C b a)
flip_text a b = (eq_by_cmp_equiv c_total).symm a b

module _ {P : Type 0} where
  -- the same fields but for links and counts that say the same
  pub kept-same : {at : ℕ → Option (Edge P)} {order : List ((List ℕ × List ℕ) × ℕ)} {links : List ((List ℕ × (List ℕ × List ℕ)) × ℕ)} {counts : List ((List ℕ × List ℕ) × ℕ)} {len : ℕ} → IsKept at order links counts len → (links' : List ((List ℕ × (List ℕ × List ℕ)) × ℕ)) (counts' : List ((List ℕ × List ℕ) × ℕ))
      → ((q : List ℕ × (List ℕ × List ℕ)) → lookup (is_at (link_cmp q)) links' ≡ lookup (is_at (link_cmp q)) links) → ((q : List ℕ × List ℕ) → tally counts' q ≡ tally counts q) → IsKept at order links' counts' len
  kept-same k links' counts' l t = record {
    sorted = k.sorted;
    stands = k.stands;
    linked = λ target q. l (target, q) ∙ k.linked target q;
    tallied = λ q. t q ∙ k.tallied q;
    counted = k.counted;
  }

  -- ---- an edge in a slot that was vacant
  module _ (at at1 : ℕ → Option (Edge P)) (order : List ((List ℕ × List ℕ) × ℕ)) (links : List ((List ℕ × (List ℕ × List ℕ)) × ℕ)) (counts : List ((List ℕ × List ℕ) × ℕ)) (len : ℕ) (kept : IsKept at order links counts len)
      (e : Edge P) (slot : ℕ) (vacant : at slot ≡ None) (changed : at1 slot ≡ Some e) (others : (o : ℕ) → o ≢ slot → at1 o ≡ at o) where
    abbrev order1 : List ((List ℕ × List ℕ) × ℕ)
    order1 = insert_entry key_cmp order (key e) slot

    sorted1 : IsStrictlySortedBy key_cmp (keys_of order1)
    sorted1 = sorted-insert keys_total (key e) slot order kept.sorted

    moved1 : (q : List ℕ × List ℕ) → lookup (is_at (key_cmp q)) order1 ≡ cond (is_eq (key_cmp q (key e))) (Some slot) (lookup (is_at (key_cmp q)) order)
    moved1 q = lookup-insert keys_total q (key e) slot order

    same1 : AllSame at at1 order
    same1 = all_by_lookups keys_total (λ q s. at1 s ≡ at s) order kept.sorted (λ q s i. others s (fresh kept slot vacant q s i))

    pub edges1 : edges_at at1 (values_of order1) ≡ with_edge e (edges_at at (values_of order))
    edges1 = edges-insert at at1 slot e order changed same1 (stand kept)

    mine1 : (at' : ℕ → Option (Edge P)) → at' slot ≡ Some e → (s : ℕ) → Some slot ≡ Some s → HasKey (at' s) (key e)
    mine1 at' h s i = subst (λ x. HasKey (at' x) (key e)) (same_Some slot s i) (subst (λ o. HasKey o (key e)) (sym h) refl)

    sorted_edges : IsStrictlySortedBy key_cmp (keys_of (keyed (edges_at at (values_of order))))
    sorted_edges = sorted-keyed at order kept.sorted (stand kept)

    module _ (links1 : List ((List ℕ × (List ℕ × List ℕ)) × ℕ)) (counts1 : List ((List ℕ × List ℕ) × ℕ))
        (entered : (q : List ℕ × (List ℕ × List ℕ)) → lookup (is_at (link_cmp q)) links1 ≡ cond (is_eq (link_cmp q (link e))) (Some slot) (lookup (is_at (link_cmp q)) links))
        (raised : (q : List ℕ × List ℕ) → tally counts1 q ≡ tally counts q + one_at (e.source, e.name) q) where
      -- where there was none with its key
      module _ (absent : lookup (is_at (key_cmp (key e))) order ≡ None) where
        none_there : lookup (is_at (key_cmp (key e))) (keyed (edges_at at (values_of order))) ≡ None
        none_there = edge_at-edges at (key e) order (stand kept) ∙ ap (option_and_then at) absent

        new_link : (target : List ℕ) → lookup (is_at (link_cmp (target, key e))) links1 ≡ slot_to target at1 (Some slot)
        new_link target =
            link_here links links1 e.target (key e) (Some slot) entered target
            ∙ ap (cond (is_eq (C target e.target)) (Some slot)) (kept.linked target (key e) ∙ ap (slot_to target at) absent)
            ∙ ap (λ o. cond (leads_to target o) (Some slot) None) (sym changed)

        pub kept-new : IsKept at1 order1 links1 counts1 (len + 1)
        kept-new = record {
          sorted = sorted1;
          stands = stands-step at at1 order order1 (key e) (Some slot) moved1 (λ q s i b. others s (fresh kept slot vacant q s i)) kept.stands (mine1 at1 changed);
          linked = linked-step at at1 order order1 (key e) (Some slot) moved1 (λ q s i b. others s (fresh kept slot vacant q s i)) links links1 kept.linked (link_else links links1 e.target (key e) (Some slot) entered) new_link;
          tallied = λ q.
              let a = kept.tallied q in let b = raised q in
              let s = sum-new (λ x. cond (is_named q x) 1 0) e (edges_at at (values_of order)) (edges_at at1 (values_of order1)) sorted_edges none_there edges1 in
              omega arith;
          counted =
              let a = kept.counted in let b = length_as_sum (edges_at at (values_of order)) in let d = length_as_sum (edges_at at1 (values_of order1)) in
              let s = sum-new (λ _. 1) e (edges_at at (values_of order)) (edges_at at1 (values_of order1)) sorted_edges none_there edges1 in
              omega arith;
        }

        pub put-new-old : None ≡ lookup (is_at (key_cmp (key e))) (keyed (edges_at at (values_of order)))
        put-new-old = sym none_there

      -- in the place of another, whose slot becomes vacant
      module _ (place : ℕ) (old : Edge P) (there : lookup (is_at (key_cmp (key e))) order ≡ Some place) (was : at1 place ≡ Some old) where
        two_slots : place ≢ slot
        two_slots = fresh kept slot vacant (key e) place there

        pub was_at : at place ≡ Some old
        was_at = sym (others place two_slots) ∙ was

        old_key : key old ≡ key e
        old_key = own_key kept (key e) place old there was_at

        some_there : lookup (is_at (key_cmp (key e))) (keyed (edges_at at (values_of order))) ≡ Some old
        some_there = edge_at-edges at (key e) order (stand kept) ∙ ap (option_and_then at) there ∙ was_at

        pub put-over-old : Some old ≡ lookup (is_at (key_cmp (key e))) (keyed (edges_at at (values_of order)))
        put-over-old = sym some_there

        -- what stood under the old edge's link before
        old_link : (target : List ℕ) → lookup (is_at (link_cmp (target, key e))) links ≡ cond (is_eq (C target old.target)) (Some place) None
        old_link target = kept.linked target (key e) ∙ ap (slot_to target at) there ∙ ap (λ o. cond (leads_to target o) (Some place) None) was_at

        entered_link : (target : List ℕ) → lookup (is_at (link_cmp (target, key e))) links1 ≡ cond (is_eq (C target e.target)) (Some slot) (cond (is_eq (C target old.target)) (Some place) None)
        entered_link target = link_here links links1 e.target (key e) (Some slot) entered target ∙ ap (cond (is_eq (C target e.target)) (Some slot)) (old_link target)

        pub old_linked : IsSome (lookup (is_at (link_cmp (link old))) links1)
        old_linked =
            subst IsSome
            (sym (ap (λ k. lookup (is_at (link_cmp (old.target, k))) links1) old_key ∙ entered_link old.target
            ∙ ap (λ b. cond (is_eq (C old.target e.target)) (Some slot) (cond b (Some place) None)) (ap is_eq (tied_itself c_total old.target))))
            (in_either (is_eq (C old.target e.target)) slot place)

        module _ (at2 : ℕ → Option (Edge P)) (others2 : (o : ℕ) → o ≢ place → at2 o ≡ at1 o) where
          changed2 : at2 slot ≡ Some e
          changed2 = others2 slot (λ p. two_slots (sym p)) ∙ changed

          others_of : (q : List ℕ × List ℕ) (s : ℕ) → lookup (is_at (key_cmp q)) order ≡ Some s → is_eq (key_cmp q (key e)) ≡ false → at2 s ≡ at s
          others_of q s i b = others2 s (other_slot kept (key e) place old there was_at q s i b) ∙ others s (fresh kept slot vacant q s i)

          not_place : (q : List ℕ × List ℕ) (s : ℕ) → lookup (is_at (key_cmp q)) order1 ≡ Some s → s ≢ place
          not_place q s i =
              ⊎_elim
              (λ b p. two_slots (sym p ∙ sym (same_Some slot s (sym (ap (λ c. cond c (Some slot) (lookup (is_at (key_cmp q)) order)) b) ∙ sym (moved1 q) ∙ i))))
              (λ b. other_slot kept (key e) place old there was_at q s (sym (ap (λ c. cond c (Some slot) (lookup (is_at (key_cmp q)) order)) b) ∙ sym (moved1 q) ∙ i) b)
              (cases_Bool (is_eq (key_cmp q (key e))))

          pub edges2 : edges_at at2 (values_of order1) ≡ with_edge e (edges_at at (values_of order))
          edges2 = edges-same at1 at2 order1 (all_by_lookups keys_total (λ q s. at2 s ≡ at1 s) order1 sorted1 (λ q s i. others2 s (not_place q s i))) ∙ edges1

          module _ (before slot_left : Option ℕ) (links2 : List ((List ℕ × (List ℕ × List ℕ)) × ℕ)) (counts2 : List ((List ℕ × List ℕ) × ℕ))
              (linked_before : before ≡ lookup (is_at (link_cmp (link e))) links)
              (left : slot_left ≡ option_and before (Some slot))
              (relinked : (q : List ℕ × (List ℕ × List ℕ)) → lookup (is_at (link_cmp q)) links2 ≡ cond (is_eq (link_cmp q (link old))) slot_left (lookup (is_at (link_cmp q)) links1))
              (lowered : (q : List ℕ × List ℕ) → tally counts2 q ≡ tally counts1 q - one_at (old.source, old.name) q) where
            chosen : (b : Bool) → option_and (cond b (Some place) None) (Some slot) ≡ cond b (Some slot) None
            chosen true = refl
            chosen false = refl

            left_is : slot_left ≡ cond (is_eq (C e.target old.target)) (Some slot) None
            left_is = left ∙ ap (λ o. option_and o (Some slot)) (linked_before ∙ old_link e.target) ∙ chosen (is_eq (C e.target old.target))

            relinked_key : (q : List ℕ × (List ℕ × List ℕ)) → lookup (is_at (link_cmp q)) links2 ≡ cond (is_eq (link_cmp q (old.target, key e))) slot_left (lookup (is_at (link_cmp q)) links1)
            relinked_key q = relinked q ∙ ap (λ k. cond (is_eq (link_cmp q (old.target, k))) slot_left (lookup (is_at (link_cmp q)) links1)) old_key

            alike_targets : (target : List ℕ) → is_eq (C target old.target) ≡ true → is_eq (C e.target old.target) ≡ is_eq (C target e.target)
            alike_targets target t =
                ap (λ x. is_eq (C e.target x)) (sym (exact_bytes target old.target (unlike (C target old.target) t))) ∙ flip_text e.target target

            over_link : (target : List ℕ) → lookup (is_at (link_cmp (target, key e))) links2 ≡ slot_to target at2 (Some slot)
            over_link target =
                link_here links1 links2 old.target (key e) slot_left relinked_key target
                ∙ ap (λ o. cond (is_eq (C target old.target)) o (lookup (is_at (link_cmp (target, key e))) links1)) left_is
                ∙ ap (cond (is_eq (C target old.target)) (cond (is_eq (C e.target old.target)) (Some slot) None)) (entered_link target)
                ∙ over_links (is_eq (C target old.target)) (is_eq (C target e.target)) (is_eq (C e.target old.target)) slot place (alike_targets target)
                ∙ ap (λ o. cond (leads_to target o) (Some slot) None) (sym changed2)

            pub kept-over : IsKept at2 order1 links2 counts2 len
            kept-over = record {
              sorted = sorted1;
              stands = stands-step at at2 order order1 (key e) (Some slot) moved1 others_of kept.stands (mine1 at2 changed2);
              linked = linked-step at at2 order order1 (key e) (Some slot) moved1 others_of links links2 kept.linked
                  (λ t q b. link_else links1 links2 old.target (key e) slot_left relinked_key t q b ∙ link_else links links1 e.target (key e) (Some slot) entered t q b) over_link;
              tallied = λ q.
                  let a = kept.tallied q in let b = raised q in let d = lowered q in
                  let s = sum-over (λ x. cond (is_named q x) 1 0) e old (edges_at at (values_of order)) (edges_at at2 (values_of order1)) sorted_edges some_there edges2 in
                  omega arith;
              counted =
                  let a = kept.counted in let b = length_as_sum (edges_at at (values_of order)) in let d = length_as_sum (edges_at at2 (values_of order1)) in
                  let s = sum-over (λ _. 1) e old (edges_at at (values_of order)) (edges_at at2 (values_of order1)) sorted_edges some_there edges2 in
                  omega arith;
            }

  -- ---- an edge taken out
  module _ (at at1 : ℕ → Option (Edge P)) (order : List ((List ℕ × List ℕ) × ℕ)) (links : List ((List ℕ × (List ℕ × List ℕ)) × ℕ)) (counts : List ((List ℕ × List ℕ) × ℕ)) (len : ℕ) (kept : IsKept at order links counts len)
      (k : List ℕ × List ℕ) (place : ℕ) (old : Edge P) (there : lookup (is_at (key_cmp k)) order ≡ Some place) (was : at place ≡ Some old) (others : (o : ℕ) → o ≢ place → at1 o ≡ at o) where
    abbrev order2 : List ((List ℕ × List ℕ) × ℕ)
    order2 = remove_entry (is_at (key_cmp k)) order

    sorted2 : IsStrictlySortedBy key_cmp (keys_of order2)
    sorted2 = sorted-remove keys_total (is_at (key_cmp k)) order kept.sorted

    moved2 : (q : List ℕ × List ℕ) → lookup (is_at (key_cmp q)) order2 ≡ cond (is_eq (key_cmp q k)) None (lookup (is_at (key_cmp q)) order)
    moved2 q = lookup-removed keys_total q k order kept.sorted

    others_out : (q : List ℕ × List ℕ) (s : ℕ) → lookup (is_at (key_cmp q)) order ≡ Some s → is_eq (key_cmp q k) ≡ false → at1 s ≡ at s
    others_out q s i b = others s (other_slot kept k place old there was q s i b)

    same_out : (q : List ℕ × List ℕ) (s : ℕ) → lookup (is_at (key_cmp q)) order2 ≡ Some s → at1 s ≡ at s
    same_out q s i =
        ⊎_elim
        (λ b. absurd (none-some s (sym (ap (λ c. cond c None (lookup (is_at (key_cmp q)) order)) b) ∙ sym (moved2 q) ∙ i)))
        (λ b. others_out q s (sym (ap (λ c. cond c None (lookup (is_at (key_cmp q)) order)) b) ∙ sym (moved2 q) ∙ i) b)
        (cases_Bool (is_eq (key_cmp q k)))

    pub edges-out : edges_at at1 (values_of order2) ≡ without_edge k.0 k.1 (edges_at at (values_of order))
    edges-out = edges-same at at1 order2 (all_by_lookups keys_total (λ q s. at1 s ≡ at s) order2 sorted2 same_out) ∙ edges-remove at k order (stand kept)

    pub out-old : Some old ≡ lookup (is_at (key_cmp k)) (keyed (edges_at at (values_of order)))
    out-old = sym (edge_at-edges at k order (stand kept) ∙ ap (option_and_then at) there ∙ was)

    module _ (links1 : List ((List ℕ × (List ℕ × List ℕ)) × ℕ)) (counts1 : List ((List ℕ × List ℕ) × ℕ))
        (unlinked : (q : List ℕ × (List ℕ × List ℕ)) → lookup (is_at (link_cmp q)) links1 ≡ cond (is_eq (link_cmp q (link old))) None (lookup (is_at (link_cmp q)) links))
        (lowered : (q : List ℕ × List ℕ) → tally counts1 q ≡ tally counts q - one_at (old.source, old.name) q) where
      unlinked_key : (q : List ℕ × (List ℕ × List ℕ)) → lookup (is_at (link_cmp q)) links1 ≡ cond (is_eq (link_cmp q (old.target, k))) None (lookup (is_at (link_cmp q)) links)
      unlinked_key q = unlinked q ∙ ap (λ x. cond (is_eq (link_cmp q (old.target, x))) None (lookup (is_at (link_cmp q)) links)) (own_key kept k place old there was)

      out_link : (target : List ℕ) → lookup (is_at (link_cmp (target, k))) links1 ≡ None
      out_link target =
          link_here links links1 old.target k None unlinked_key target
          ∙ ap (cond (is_eq (C target old.target)) None) (kept.linked target k ∙ ap (slot_to target at) there ∙ ap (λ o. cond (leads_to target o) (Some place) None) was)
          ∙ gone_links (is_eq (C target old.target)) place

      pub kept-out : IsKept at1 order2 links1 counts1 (len - 1)
      kept-out = record {
        sorted = sorted2;
        stands = stands-step at at1 order order2 k None moved2 others_out kept.stands (λ s i. absurd (none-some s i));
        linked = linked-step at at1 order order2 k None moved2 others_out links links1 kept.linked (link_else links links1 old.target k None unlinked_key) out_link;
        tallied = λ q.
            let a = kept.tallied q in let d = lowered q in
            let s = sum-out (λ x. cond (is_named q x) 1 0) k old (edges_at at (values_of order)) (edges_at at1 (values_of order2)) (sym out-old) edges-out in
            omega arith;
        counted =
            let a = kept.counted in let b = length_as_sum (edges_at at (values_of order)) in let d = length_as_sum (edges_at at1 (values_of order2)) in
            let s = sum-out (λ _. 1) k old (edges_at at (values_of order)) (edges_at at1 (values_of order2)) (sym out-old) edges-out in
            omega arith;
      }
