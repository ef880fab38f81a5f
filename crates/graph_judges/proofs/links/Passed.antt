-- Limits with one relationship more, or with one in the place of another.
use Rattle.std.proofs.Common.{◌≡◌, ℕ, ◌+◌, ◌<◌, ◌≤◌, inl, inr, List, length, Some, None, unwrap_or, refl, sym, ap, ◌∙◌, arith}
use Rattle.std.specs.Option.{option_map}
use Rattle.std.specs.List.{sum_by}
use Rattle.std.proofs.lemmas.List.Sums.{sum-map}
use Rattle.std.proofs.lemmas.Map.Entries.{sum_by-insert_entry}
use Rattle.dtdl_terms.specs.declared.limit.Limit.TheVariants as limits
use Rattle.rel_graph.specs.declared.edge.Edge.{Edge}
use Rattle.rel_graph.specs.Edges.{key_cmp, key, keyed, EdgesInOrder, edge_at, with_edge}
use Rattle.rel_graph.proofs.Tallies.{keys_total}
use Rattle.rel_graph.proofs.Steps.{length_as_sum}
use Rattle.graph_asks.specs.declared.refusal.Refusal.{Refusal}
use Rattle.graph_asks.specs.declared.refusal.Refusal.TheVariants as refusals
use Rattle.graph_steps.specs.LinkAsks.{LinkFull, link_at, with_link}
use Rattle.graph_steps.specs.States.{State, Link, link_text, graph_bytes}
use Rattle.graph_steps.specs.Typed.{WellTyped}
use Rattle.graph_steps.proofs.invariants.Keyed.{sorted-keys, values-entries}
use Rattle.graph_steps.specs.held.Judged.{Unrefused}

-- ---- the first limit that is passed
module _ (new : State) (l : Link) where
  pub too_long : 4096 < length (link_text l) → LinkFull new l (refusals.Full limits.RelationshipBytes)
  too_long long = inl (long, refl)

  module _ (short : length (link_text l) ≤ 4096) where
    not_long : (r : Refusal) → (4096 < length (link_text l)) × (r ≡ refusals.Full limits.RelationshipBytes) → ⊥
    not_long r h = let long = h.0 in omega (arith, short, long)

    pub too_many : 400000 < length new.links → LinkFull new l (refusals.Full limits.Relationships)
    too_many many = inr (not_long, inl (many, refl))

    module _ (few : length new.links ≤ 400000) where
      not_many : (r : Refusal) → (400000 < length new.links) × (r ≡ refusals.Full limits.Relationships) → ⊥
      not_many r h = let many = h.0 in omega (arith, few, many)

      pub too_much : 268435456 < graph_bytes new → LinkFull new l (refusals.Full limits.GraphBytes)
      too_much much = inr (not_long, inr (not_many, (much, refl)))

      pub room : graph_bytes new ≤ 268435456 → Unrefused (LinkFull new l)
      room little r (inl h) = not_long r h
      room little r (inr (a, inl h)) = not_many r h
      room little r (inr (a, inr (b, h))) = let much = h.0 in omega (arith, little, much)

-- ---- sums
sum-put : {P : Type 0} (f : Edge P → ℕ) (e : Edge P) (es : List (Edge P)) → EdgesInOrder es → sum_by f (with_edge e es) + unwrap_or (option_map f (edge_at e.source e.id es)) 0 ≡ sum_by f es + f e
sum-put f e es o = sum_by-insert_entry f keys_total (keyed es) (key e) e (sorted-keys key key_cmp es o) ∙ ap (λ xs. sum_by f xs + f e) (values-entries key es)

abbrev pub text_size : Link → ℕ
text_size l = length (link_text l)

abbrev each : Link → ℕ
each l = 1

module _ (s : State) (w : WellTyped s) (l : Link) where
  pub bytes_put : graph_bytes (with_link l s) + unwrap_or (option_map text_size (link_at l.source l.id s)) 0 ≡ graph_bytes s + length (link_text l)
  bytes_put =
      let put = sum-put text_size l s.links w.links in
      let new = sum-map text_size (with_edge l s.links) in
      let old = sum-map text_size s.links in
      omega (arith, put, new, old)

  links_put : length (with_link l s).links + unwrap_or (option_map each (link_at l.source l.id s)) 0 ≡ length s.links + 1
  links_put =
      let put = sum-put each l s.links w.links in
      let new = length_as_sum (with_edge l s.links) in
      let old = length_as_sum s.links in
      omega (arith, put, new, old)

  pub links_over : (old : Link) → link_at l.source l.id s ≡ Some old → length s.links ≡ length (with_link l s).links
  links_over old found =
      let put = links_put in
      let one : unwrap_or (option_map each (link_at l.source l.id s)) 0 ≡ 1 = ap (λ o. unwrap_or (option_map each o) 0) found in
      omega (arith, put, one)

  pub links_new : link_at l.source l.id s ≡ None → length s.links + 1 ≡ length (with_link l s).links
  links_new none =
      let put = links_put in
      let zero_there : unwrap_or (option_map each (link_at l.source l.id s)) 0 ≡ 0 = ap (λ o. unwrap_or (option_map each o) 0) none in
      omega (arith, put, zero_there)
