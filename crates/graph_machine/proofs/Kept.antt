-- What holds of a machine holds after each change.
use Rattle.std.proofs.Common.{◌≡◌, ℕ, ◌+◌, ◌-◌, ◌≤◌, map, List, [], ◌∷◌, Bool, Some, None, unwrap_or, refl, sym, ap, ◌∙◌, subst, arith}
use Rattle.std.specs.Option.{option_map}
use Rattle.std.specs.List.{AllByRecursion, sum_by}
use Rattle.std.specs.List.Sorted.{IsStrictlySortedBy}
use Rattle.std.specs.BTreeMap.{is_at}
use Rattle.std.proofs.lemmas.Map.Entries.{sum_by-remove_entry}
use Rattle.std.proofs.lemmas.Option.{none-some}
use Rattle.ordered_table.proofs.Flat.{C}
use Rattle.dt_base.specs.names.Grammar.{Identifier}
use Rattle.dtdl_terms.specs.declared.resolved.Resolved.{Resolved}
use Rattle.dtdl_terms.specs.Distinct.{HasDeclaration}
use Rattle.dtdl_terms.specs.declared.uploaded.Uploaded.{Uploaded}
use Rattle.rel_graph.specs.Edges.{EdgesInOrder, key_cmp, key, edge_at, with_edge, without_edge}
use Rattle.rel_graph.specs.declared.edge.Edge.{Edge}
use Rattle.rel_graph.proofs.Tallies.{keys_total}
use Rattle.graph_steps.specs.twins.Held as table
use Rattle.graph_steps.specs.declared.twins.held.Held.{Held}
use Rattle.model_life.specs.resolution.Resolving.{HoldsRight}
use Rattle.model_life.specs.Models.{Model, interfaces_of, with_mark, with_new_models, without_models}
use Rattle.graph_asks.specs.declared.refusal.Refusal.{Refusal}
use Rattle.graph_steps.specs.ModelAsks.{RefusesPutModels, RefusesDropModel}
use Rattle.graph_steps.specs.Soundness.{IsSoundUpload}
use Rattle.graph_steps.specs.LinkAsks.{with_link}
use Rattle.graph_steps.specs.States.{State, with_twin, graph_bytes}
use Rattle.graph_steps.specs.TwinAsks.{RefusesDropTwin}
use Rattle.local_rules.specs.Soundness.{IsSoundInterface}
use Rattle.graph_steps.specs.Typed.{WellTyped}
use Rattle.graph_steps.proofs.Empty.{empty_is_typed}
use Rattle.graph_steps.proofs.Marked.{still_typed}
use Rattle.graph_steps.proofs.invariants.Drops.{rel_dropped, twin_dropped}
use Rattle.graph_steps.proofs.invariants.Keyed.{entries, values-entries, all-with, all-without, sum-with}
use Rattle.graph_steps.proofs.invariants.ModelDrops.{model_dropped}
use Rattle.graph_steps.proofs.invariants.ModelPuts.{models_put}
use Rattle.graph_steps.specs.held.Held.{Holding, holding, state_of, link_bytes, twin_of, link_of, IsHeldTwin, IsHeldLink, HoldsTogether}
use Rattle.graph_steps.specs.declared.held.stored.Stored.{Stored}
use Rattle.graph_machine.proofs.Answered.{same_interfaces}
use Rattle.graph_steps.proofs.held.Viewed.{bytes_held, twins_with, twins_without, links_with, links_without}

pub none_kept : HoldsTogether (holding [] [] []) [] 0
none_kept = record { typed = empty_is_typed; right = λ id r e. absurd (none-some r e); held = record { twins = tt; links = tt; sum = refl } }

abbrev size : Edge Stored → ℕ
size e = e.payload.bytes

total-without : (source id : List ℕ) (es : List (Edge Stored)) → link_bytes (without_edge source id es) + unwrap_or (option_map size (edge_at source id es)) 0 ≡ link_bytes es
total-without source id es = sum_by-remove_entry size (is_at (key_cmp (source, id))) (entries key es) ∙ ap (sum_by size) (values-entries key es)

total-with : (e : Edge Stored) (es : List (Edge Stored)) → EdgesInOrder es → link_bytes (with_edge e es) ≡ link_bytes (without_edge e.source e.id es) + e.payload.bytes
total-with e es sorted = sum-with key key_cmp keys_total size e es sorted

all_interfaces : (us : List Uploaded) → AllByRecursion IsSoundUpload us → AllByRecursion (λ u. IsSoundInterface u.interface) us
all_interfaces [] all = tt
all_interfaces (u ∷ us) all = (all.0.interface, all_interfaces us all.1)

pub all_declared : (us : List Uploaded) → AllByRecursion IsSoundUpload us → AllByRecursion (λ u. HasDeclaration u.interface) us
all_declared [] all = tt
all_declared (u ∷ us) all = (all.0.interface.declaration, all_declared us all.1)

module _ (h : Holding) (rs : List (Identifier × Resolved)) (bytes : ℕ) (k : HoldsTogether h rs bytes) where
  -- ---- models
  pub mark_kept : (id : Identifier) (on : Bool) → HoldsTogether (holding (with_mark id on h.models) h.twins h.links) rs bytes
  mark_kept id on = record {
    typed = still_typed (state_of h) (with_mark id on h.models) (sym (same_interfaces id on h.models)) k.typed;
    right = subst (λ is. HoldsRight is rs) (sym (same_interfaces id on h.models)) k.right;
    held = record { twins = k.held.twins; links = k.held.links; sum = k.held.sum };
  }

  pub drop_kept : (id : Identifier) → ((r : Refusal) → RefusesDropModel (state_of h) id r → ⊥) → HoldsTogether (holding (without_models (id ∷ []) h.models) h.twins h.links) [] bytes
  drop_kept id free = record {
    typed = model_dropped (state_of h) id k.typed free;
    right = λ q r e. absurd (none-some r e);
    held = record { twins = k.held.twins; links = k.held.links; sum = k.held.sum };
  }

  pub models_kept : (us : List Uploaded) → AllByRecursion IsSoundUpload us → ((r : Refusal) → RefusesPutModels (state_of h) us r → ⊥)
      → (ms : List Model) → ms ≡ with_new_models us h.models → (held : List (Identifier × Resolved)) → HoldsRight (interfaces_of ms) held → HoldsTogether (holding ms h.twins h.links) held bytes
  models_kept us each free ms is held right = record {
    typed = subst (λ (new : List Model). WellTyped (state_of (holding new h.twins h.links))) (sym is) (models_put (state_of h) us k.typed (all_interfaces us each) free);
    right = right;
    held = record { twins = k.held.twins; links = k.held.links; sum = k.held.sum };
  }

  pub same_kept : (ms : List Model) → ms ≡ h.models → (held : List (Identifier × Resolved)) → HoldsRight (interfaces_of ms) held → HoldsTogether (holding ms h.twins h.links) held bytes
  same_kept ms is held right = record {
    typed = subst (λ (new : List Model). WellTyped (state_of (holding new h.twins h.links))) (sym is) k.typed;
    right = right;
    held = record { twins = k.held.twins; links = k.held.links; sum = k.held.sum };
  }

  -- ---- twins
  pub twin_kept_out : (id : List ℕ) → ((r : Refusal) → RefusesDropTwin (state_of h) id r → ⊥) → HoldsTogether (holding h.models (table.without_held id h.twins) h.links) rs bytes
  twin_kept_out id free = record {
    typed = subst WellTyped (sym (twins_without id h)) (twin_dropped (state_of h) id k.typed free);
    right = k.right;
    held = record {
      twins = all-without table.id_of IsHeldTwin (is_at (C id)) h.twins k.held.twins;
      links = k.held.links;
      sum = k.held.sum;
    };
  }

  -- ---- relationships
  link_kept_out : (source id : List ℕ) (less : ℕ) → less ≡ link_bytes (without_edge source id h.links) → HoldsTogether (holding h.models h.twins (without_edge source id h.links)) rs less
  link_kept_out source id less sum = record {
    typed = subst WellTyped (sym (links_without source id h)) (rel_dropped (state_of h) source id k.typed);
    right = k.right;
    held = record {
      twins = k.held.twins;
      links = all-without key IsHeldLink (is_at (key_cmp (source, id))) h.links k.held.links;
      sum = sum;
    };
  }

  pub no_link_kept : (source id : List ℕ) → None ≡ edge_at source id h.links → HoldsTogether (holding h.models h.twins (without_edge source id h.links)) rs bytes
  no_link_kept source id none =
      let total : link_bytes (without_edge source id h.links) + 0 ≡ link_bytes h.links =
      ap (λ o. link_bytes (without_edge source id h.links) + unwrap_or (option_map size o) 0) none ∙ total-without source id h.links in
      let before = k.held.sum in
      link_kept_out source id bytes (omega (arith, total, before))

  pub one_link_kept : (source id : List ℕ) (e : Edge Stored) → Some e ≡ edge_at source id h.links → HoldsTogether (holding h.models h.twins (without_edge source id h.links)) rs (bytes - e.payload.bytes)
  one_link_kept source id e found =
      let total : link_bytes (without_edge source id h.links) + e.payload.bytes ≡ link_bytes h.links =
      ap (λ o. link_bytes (without_edge source id h.links) + unwrap_or (option_map size o) 0) found ∙ total-without source id h.links in
      let before = k.held.sum in
      link_kept_out source id (bytes - e.payload.bytes) (omega (arith, total, before))

  -- ---- what comes
  sorted_links : EdgesInOrder h.links
  sorted_links = subst (IsStrictlySortedBy key_cmp) (same_keys h.links) k.typed.links
    where
      same_keys : (es : List (Edge Stored)) → map key (map link_of es) ≡ map key es
      same_keys [] = refl
      same_keys (e ∷ es) = ap (λ ks. key e ∷ ks) (same_keys es)

  pub twin_kept_in : (x : Held) → WellTyped (with_twin (twin_of x) (state_of h)) → IsHeldTwin x → HoldsTogether (holding h.models (table.with_held x h.twins) h.links) rs bytes
  twin_kept_in x typed held = record {
    typed = subst WellTyped (sym (twins_with x h)) typed;
    right = k.right;
    held = record {
      twins = all-with table.id_of C IsHeldTwin x h.twins held k.held.twins;
      links = k.held.links;
      sum = k.held.sum;
    };
  }

  pub link_kept_in : (e : Edge Stored) → WellTyped (with_link (link_of e) (state_of h)) → IsHeldLink e → (more : ℕ) → more ≡ link_bytes (with_edge e h.links) → HoldsTogether (holding h.models h.twins (with_edge e h.links)) rs more
  link_kept_in e typed held more sum = record {
    typed = subst WellTyped (sym (links_with e h)) typed;
    right = k.right;
    held = record {
      twins = k.held.twins;
      links = all-with key key_cmp IsHeldLink e h.links held k.held.links;
      sum = sum;
    };
  }

  -- how many bytes all have with one that comes, without the one in its place
  pub more_bytes : (e : Edge Stored) → WellTyped (with_link (link_of e) (state_of h)) → IsHeldLink e → (less : ℕ) → less ≡ unwrap_or (option_map size (edge_at e.source e.id h.links)) 0
      → (bytes - less + e.payload.bytes ≡ link_bytes (with_edge e h.links)) × (link_bytes (with_edge e h.links) ≤ 268435456)
  more_bytes e typed held less is =
      let next = holding h.models h.twins (with_edge e h.links) in
      let own = k.held.sum in
      let gone = total-without e.source e.id h.links in
      let came = total-with e h.links sorted_links in
      let all = bytes_held next (link_bytes (with_edge e h.links)) (record { twins = k.held.twins; links = all-with key key_cmp IsHeldLink e h.links held k.held.links; sum = refl }) in
      let limit : graph_bytes (state_of next) ≤ 268435456 = subst (λ (s : State). graph_bytes s ≤ 268435456) (sym (links_with e h)) typed.limits.graph_bytes in
      (omega (arith, is, own, gone, came), omega (arith, all, limit))
