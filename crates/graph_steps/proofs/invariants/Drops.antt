-- A state from which a relationship or a twin went is well typed.
use Rattle.std.proofs.Common.{◌≡◌, ℕ, ◌≤◌, List, length, Bool, true, false, cond, ◌||◌, bytes_eq, Option, None, refl, sym, ap, ◌∙◌, subst, true≢false, arith}
use Rattle.std.specs.Prelude.{Contains, IsSome}
use Rattle.std.specs.List.{AllByRecursion, find}
use Rattle.std.specs.BTreeMap.{is_at}
use Rattle.ordered_table.proofs.Flat.{C}
use Rattle.rel_graph.specs.Edges.{key_cmp, key, without_edge, named}
use Rattle.model_life.proofs.resolution.Changes.{all_map}
use Rattle.dtdl_terms.specs.TermViews.{kind_term}
use Rattle.graph_asks.specs.declared.refusal.Refusal.{Refusal}
use Rattle.graph_asks.specs.declared.refusal.Refusal.TheVariants as refusals
use Rattle.graph_steps.specs.States.{State, Twin, Link, twin_at, is_end, twin_text, link_text, without_twin}
use Rattle.graph_steps.specs.Typed.{HasEnds, TwinIsTyped, LinkIsTyped, most_of, WellTyped}
use Rattle.graph_steps.specs.TwinAsks.{TwinNotFound, TwinInUse, RefusesDropTwin}
use Rattle.graph_steps.specs.LinkAsks.{after_drop_rel}
use Rattle.graph_steps.proofs.invariants.Unrefused.{not_second, none_there}
use Rattle.graph_steps.proofs.invariants.Lists.{all_at, all_from, none_passes}
use Rattle.graph_steps.proofs.invariants.Keyed.{all-without}
use Rattle.graph_steps.proofs.invariants.Edges.{in-order-without, named-without}
use Rattle.graph_steps.proofs.invariants.Twins as twins
use Rattle.graph_steps.proofs.invariants.Kept.{fewer, bytes-without, length-without, link_kept}

-- ---- a relationship
pub rel_dropped : (s : State) (source id : List ℕ) → WellTyped s → WellTyped (after_drop_rel s source id)
rel_dropped s source id w =
    let bytes = bytes-without (key {P = _}) (is_at (key_cmp (source, id))) (λ (l : Link). length (link_text l)) s.links in
    let long = length-without (key {P = _}) (is_at (key_cmp (source, id))) s.links in
    let most = w.limits.graph_bytes in
    let many = w.limits.links in
    record {
      models = w.models;
      twins = w.twins;
      links = in-order-without source id s.links w.links;
      ends = all-without key (HasEnds s) (is_at (key_cmp (source, id))) s.links w.ends;
      fit = w.fit;
      links_fit = all_map (LinkIsTyped s) (LinkIsTyped (after_drop_rel s source id)) (without_edge source id s.links)
          (λ l typed. link_kept s s.twins (without_edge source id s.links) l (λ t found. (t, found, refl)) (λ t found. (t, found, refl))
          (λ u i at live f. fewer (most_of (kind_term f.content.content.kind)) (named l.source l.name s.links) (named l.source l.name (without_edge source id s.links)) (named-without l.source l.name source id s.links) f.few) typed)
          (all-without key (LinkIsTyped s) (is_at (key_cmp (source, id))) s.links w.links_fit);
      limits = record {
        models = w.limits.models;
        twin_bytes = w.limits.twin_bytes;
        link_bytes = all-without key (λ (l : Link). length (link_text l) ≤ 4096) (is_at (key_cmp (source, id))) s.links w.limits.link_bytes;
        twins = w.limits.twins;
        links = omega (arith, long, many);
        graph_bytes = omega (arith, bytes, most);
      };
    }

-- ---- a twin
pub neither : (a b : Bool) → (a || b) ≡ false → (a ≡ false) × (b ≡ false)
neither true b h = absurd (true≢false h)
neither false b h = (refl, h)

module _ (s : State) (id : List ℕ) (w : WellTyped s) (free : (r : Refusal) → RefusesDropTwin s id r → ⊥) where
  unused : AllByRecursion (λ (l : Link). is_end id l ≡ false) s.links
  unused = none_passes (is_end id) s.links (none_there (find (is_end id) s.links) (λ l found. not_second (TwinNotFound s id) (TwinInUse s id) free (refusals.TwinInUse l.id l.source) (l, found, refl)))

  same_at : (other : List ℕ) → bytes_eq other id ≡ false → twin_at other (without_twin id s) ≡ twin_at other s
  same_at other differs = twins.twin_without id s w.twins other ∙ ap (λ b. cond b None (twin_at other s)) (twins.apart other id differs)

  kept_ends : (l : Link) → Contains s.links l → HasEnds (without_twin id s) l
  kept_ends l c =
      let off = neither (bytes_eq l.source id) (bytes_eq l.target id) (all_at (λ (l : Link). is_end id l ≡ false) s.links l unused c) in
      let has = all_at (HasEnds s) s.links l w.ends c in
      (subst (λ (o : Option Twin). IsSome o) (sym (same_at l.source off.0)) has.0, subst (λ (o : Option Twin). IsSome o) (sym (same_at l.target off.1)) has.1)

  kept_link : (l : Link) → Contains s.links l → LinkIsTyped (without_twin id s) l
  kept_link l c =
      let off = neither (bytes_eq l.source id) (bytes_eq l.target id) (all_at (λ (l : Link). is_end id l ≡ false) s.links l unused c) in
      link_kept s (without_twin id s).twins s.links l (λ t found. (t, sym (same_at l.source off.0) ∙ found, refl)) (λ t found. (t, sym (same_at l.target off.1) ∙ found, refl))
      (λ u i at live f. f.few) (all_at (LinkIsTyped s) s.links l w.links_fit c)

  pub twin_dropped : WellTyped (without_twin id s)
  twin_dropped =
      let bytes = bytes-without (λ (t : Twin). t.id) (is_at (C id)) (λ (t : Twin). length (twin_text t)) s.twins in
      let long = length-without (λ (t : Twin). t.id) (is_at (C id)) s.twins in
      let most = w.limits.graph_bytes in
      let many = w.limits.twins in
      record {
        models = w.models;
        twins = twins.in-order-without id s w.twins;
        links = w.links;
        ends = all_from (HasEnds (without_twin id s)) s.links kept_ends;
        fit = all-without (λ (t : Twin). t.id) (TwinIsTyped s) (is_at (C id)) s.twins w.fit;
        links_fit = all_from (LinkIsTyped (without_twin id s)) s.links kept_link;
        limits = record {
          models = w.limits.models;
          twin_bytes = all-without (λ (t : Twin). t.id) (λ (t : Twin). length (twin_text t) ≤ 32768) (is_at (C id)) s.twins w.limits.twin_bytes;
          link_bytes = w.limits.link_bytes;
          twins = omega (arith, long, many);
          links = w.limits.links;
          graph_bytes = omega (arith, bytes, most);
        };
      }
