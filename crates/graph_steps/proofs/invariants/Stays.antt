-- What an ask that is not refused leaves of a twin that was frozen.
use Rattle.std.proofs.Common.{◌≡◌, ℕ, ◌⊎◌, inl, inr, List, [], ◌∷◌, Bool, true, false, cond, Option, Some, None, Result, Ok, Err, refl, sym, ap, ◌∙◌, is_eq, true≢false, Ordering, Less, Equal, Greater}
use Rattle.std.specs.Prelude.{Contains}
use Rattle.std.specs.Option.{is_some}
use Rattle.std.specs.Ordering.{ordering_then}
use Rattle.ordered_table.proofs.Flat.{C}
use Rattle.dt_base.specs.names.Grammar.{Identifier, dtmi_text, id_eq}
use Rattle.json_tree.specs.Values.{Json}
use Rattle.dtdl_terms.specs.Sets.{interface_at}
use Rattle.dtdl_terms.specs.declared.interface.Interface.{Interface}
use Rattle.rel_graph.specs.Edges.{key_cmp}
use Rattle.rel_graph.proofs.Tallies.{same_key}
use Rattle.model_life.specs.sets.Changing.{is_one_of}
use Rattle.model_life.proofs.sets.Looking.{at_without}
use Rattle.twin_patch.specs.Operations.{Operation}
use Rattle.twin_patch.specs.Patched.{patched_from}
use Rattle.model_life.specs.Models.{Model, model_of, interfaces_of, mark_one, with_mark}
use Rattle.graph_asks.specs.declared.refusal.Refusal.{Refusal}
use Rattle.graph_asks.specs.declared.refusal.Refusal.TheVariants as refusals
use Rattle.graph_steps.specs.States.{State, Twin, Link, set_of, interface_of, twin_at, is_live, twin_value, link_value, part_value, with_twin, without_twin}
use Rattle.graph_steps.specs.Typed.{WellTyped}
use Rattle.graph_steps.specs.ModelAsks.{after_mark, after_drop}
use Rattle.graph_steps.specs.TwinAsks.{TwinNotFound, Frozen, twin_for, with_body, RefusesPutTwin, after_put_twin, interface_in, RefusesPatchTwin, with_patched, after_patch_twin, component_at, with_part, RefusesPatchPart, with_new_part, after_patch_part}
use Rattle.graph_steps.specs.LinkAsks.{link_at, link_for, with_link, interface_from, RefusesPutRel, after_put_rel, LinkNotFound, with_payload, RefusesPatchRel, after_patch_rel, after_drop_rel}
use Rattle.graph_steps.proofs.invariants.Unrefused.{not_first, not_second}
use Rattle.graph_steps.proofs.invariants.Keyed.{one_text}
use Rattle.graph_steps.proofs.invariants.Edges.{edge-with, edge-without, edge_there}
use Rattle.graph_steps.proofs.invariants.Twins.{twin_there, twin_stands, twin_else, twin_without}
use Rattle.graph_steps.proofs.invariants.ModelDrops.{same_left}

-- The twin is as it was, with its relationships, and is live where it was.
abbrev pub Stays : State → State → Twin → Type 0
Stays s next t = (twin_at t.id next ≡ Some t) × ((id : List ℕ) → link_at t.id id next ≡ link_at t.id id s) × (is_live next t ≡ is_live s t)

behind_first : (a b : Ordering) → is_eq a ≡ false → is_eq (ordering_then a b) ≡ false
behind_first Less b h = refl
behind_first Equal b h = absurd (true≢false h)
behind_first Greater b h = refl

-- ---- marks
same_one : (id : Identifier) (on : Bool) (m : Model) → (mark_one id on m).interface ≡ m.interface
same_one id on m = elim (id_eq id m.interface.id) as (λ b. (cond b (model_of m.interface on) m).interface ≡ m.interface) [ true ↦ refl | false ↦ refl ]

pub same_marked : (id : Identifier) (on : Bool) (ms : List Model) → interfaces_of (with_mark id on ms) ≡ interfaces_of ms
same_marked id on [] = refl
same_marked id on (m ∷ ms) = ap (λ (i : Interface). i ∷ interfaces_of (with_mark id on ms)) (same_one id on m) ∙ ap (λ (is : List Interface). m.interface ∷ is) (same_marked id on ms)

module _ (s : State) (w : WellTyped s) (t : Twin) (c : Contains s.twins t) (frozen : is_live s t ≡ false) where
  pub stands_now : twin_at t.id s ≡ Some t
  stands_now = twin_stands s t w.twins c

  pub same_stays : Stays s s t
  same_stays = (stands_now, λ id. refl, refl)

  -- An id that is asked for and not refused as frozen is another.
  differs : (id : List ℕ) → ((r : Refusal) → Frozen s id r → ⊥) → (b : Bool) → is_eq (C t.id id) ≡ b → is_eq (C t.id id) ≡ false
  differs id thawed false e = e
  differs id thawed true e =
      absurd (thawed (refusals.Frozen (dtmi_text t.model)) (t, ap (λ (q : List ℕ). twin_at q s) (sym (one_text t.id id e)) ∙ stands_now, frozen, refl))

  -- ---- models
  frozen_model : interface_of s t.model ≡ None
  frozen_model = by (interface_of s t.model) refl
    where
      by : (o : Option Interface) → interface_of s t.model ≡ o → interface_of s t.model ≡ None
      by None e = e
      by (Some i) e = absurd (true≢false (sym (ap (λ (o : Option Interface). is_some o) e) ∙ frozen))

  pub mark_stays : (id : Identifier) (on : Bool) → Stays s (after_mark s id on) t
  mark_stays id on = (stands_now, λ q. refl, ap (λ (set : List Interface). is_some (interface_at t.model set)) (same_marked id on s.models))

  pub drop_stays : (id : Identifier) → Stays s (after_drop s id) t
  drop_stays id = (stands_now, λ q. refl, ap (λ (set : List Interface). is_some (interface_at t.model set)) (same_left (id ∷ []) s.models) ∙ ap (λ (o : Option Interface). is_some o) (at_without (id ∷ []) (set_of s) t.model ∙ none (is_one_of (id ∷ []) t.model)))
    where
      none : (b : Bool) → cond b None (interface_of s t.model) ≡ interface_of s t.model
      none true = sym frozen_model
      none false = refl

  -- ---- twins
  twin_stays : (u : Twin) → is_eq (C t.id u.id) ≡ false → Stays s (with_twin u s) t
  twin_stays u other = (twin_else u s t.id other ∙ stands_now, λ q. refl, refl)

  body_stays : (id : List ℕ) (o : Option Interface) (v : Json) → is_eq (C t.id id) ≡ false → Stays s (with_body s id o v) t
  body_stays id None v other = same_stays
  body_stays id (Some i) v other = twin_stays (twin_for s id i v) other

  pub put_stays : (id : List ℕ) (model : Identifier) (v : Json) → ((r : Refusal) → RefusesPutTwin s id model v r → ⊥) → Stays s (after_put_twin s id model v) t
  put_stays id model v free = body_stays id (interface_of s model) v (differs id (not_first (Frozen s id) _ free) (is_eq (C t.id id)) refl)

  patched_stays : (id : List ℕ) (res : Result Json ℕ) → is_eq (C t.id id) ≡ false → Stays s (with_patched s id res) t
  patched_stays id (Err index) other = same_stays
  patched_stays id (Ok v) other = body_stays id (interface_in s v) v other

  patch_from : (id : List ℕ) (os : List Operation) → is_eq (C t.id id) ≡ false → (o : Option Twin) → twin_at id s ≡ o → Stays s (after_patch_twin s id os) t
  patch_from id os other None e = rw e same_stays
  patch_from id os other (Some u) e = let now : Stays s (with_patched s id (patched_from 0 os (twin_value u))) t = patched_stays id (patched_from 0 os (twin_value u)) other in rw e now

  pub patch_stays : (id : List ℕ) (os : List Operation) → ((r : Refusal) → RefusesPatchTwin s id os r → ⊥) → Stays s (after_patch_twin s id os) t
  patch_stays id os free = patch_from id os (differs id (not_first (Frozen s id) _ (not_second (TwinNotFound s id) _ free)) (is_eq (C t.id id)) refl) (twin_at id s) refl

  new_part_stays : (id name : List ℕ) (u : Twin) (res : Result Json ℕ) → is_eq (C t.id id) ≡ false → u.id ≡ id → Stays s (with_new_part s name u res) t
  new_part_stays id name u (Err index) other own = same_stays
  new_part_stays id name u (Ok v) other own = twin_stays (with_part name v u) (ap (λ (q : List ℕ). is_eq (C t.id q)) own ∙ other)

  part_from : (id name : List ℕ) (os : List Operation) → is_eq (C t.id id) ≡ false → (o : Option Twin) → twin_at id s ≡ o → Stays s (after_patch_part s id name os) t
  part_from id name os other None e = rw e same_stays
  part_from id name os other (Some u) e = by (component_at name u) refl
    where
      by : (p : Option Json) → component_at name u ≡ p → Stays s (after_patch_part s id name os) t
      by None f = rw (e, f) same_stays
      by (Some v) f = let now : Stays s (with_new_part s name u (patched_from 0 os (part_value v))) t = new_part_stays id name u (patched_from 0 os (part_value v)) other (twin_there s id u e).0 in rw (e, f) now

  pub part_stays : (id name : List ℕ) (os : List Operation) → ((r : Refusal) → RefusesPatchPart s id name os r → ⊥) → Stays s (after_patch_part s id name os) t
  part_stays id name os free = part_from id name os (differs id (not_first (Frozen s id) _ (not_second (TwinNotFound s id) _ free)) (is_eq (C t.id id)) refl) (twin_at id s) refl

  -- ---- a twin goes
  pub other_dropped : (id : List ℕ) → is_eq (C t.id id) ≡ false → Stays s (without_twin id s) t
  other_dropped id other = (twin_without id s w.twins t.id ∙ ap (λ b. cond b None (twin_at t.id s)) other ∙ stands_now, λ q. refl, refl)

  pub own_dropped : (id : List ℕ) → is_eq (C t.id id) ≡ true → twin_at t.id (without_twin id s) ≡ None
  own_dropped id same = twin_without id s w.twins t.id ∙ ap (λ b. cond b None (twin_at t.id s)) same

  -- ---- relationships
  link_stays : (l : Link) → is_eq (C t.id l.source) ≡ false → Stays s (with_link l s) t
  link_stays l other = (stands_now, λ q. edge-with l s.links t.id q ∙ ap (λ b. cond b (Some l) (link_at t.id q s)) (behind_first (C t.id l.source) (C q l.id) other), refl)

  put_rel_from : (source id name target : List ℕ) (v : Json) → is_eq (C t.id source) ≡ false → (o : Option Interface) → interface_from s source ≡ o → Stays s (after_put_rel s source id name target v) t
  put_rel_from source id name target v other None e = rw e same_stays
  put_rel_from source id name target v other (Some i) e = let now : Stays s (with_link (link_for s i source id name target v) s) t = link_stays (link_for s i source id name target v) other in rw e now

  pub put_rel_stays : (source id name target : List ℕ) (v : Json) → ((r : Refusal) → RefusesPutRel s source id name target v r → ⊥) → Stays s (after_put_rel s source id name target v) t
  put_rel_stays source id name target v free =
      put_rel_from source id name target v (differs source (not_first (Frozen s source) _ (not_second (TwinNotFound s source) _ free)) (is_eq (C t.id source)) refl) (interface_from s source) refl

  patch_rel_by : (source id : List ℕ) (os : List Operation) → is_eq (C t.id source) ≡ false → (i : Interface) → interface_from s source ≡ Some i → (l : Link) → link_at source id s ≡ Some l → (res : Result Json ℕ) → patched_from 0 os (link_value l) ≡ res
      → Stays s (after_patch_rel s source id os) t
  patch_rel_by source id os other i e l f (Err index) g = rw (e, f, g) same_stays
  patch_rel_by source id os other i e l f (Ok v) g =
      let now : Stays s (with_link (with_payload s i v l) s) t = link_stays (with_payload s i v l) (ap (λ (q : List ℕ). is_eq (C t.id q)) (edge_there source id s.links l f).0 ∙ other) in
      rw (e, f, g) now

  patch_rel_from : (source id : List ℕ) (os : List Operation) → is_eq (C t.id source) ≡ false → (o : Option Interface) → interface_from s source ≡ o → (p : Option Link) → link_at source id s ≡ p → Stays s (after_patch_rel s source id os) t
  patch_rel_from source id os other None e p f = rw e same_stays
  patch_rel_from source id os other (Some i) e None f = rw (e, f) same_stays
  patch_rel_from source id os other (Some i) e (Some l) f = patch_rel_by source id os other i e l f (patched_from 0 os (link_value l)) refl

  pub patch_rel_stays : (source id : List ℕ) (os : List Operation) → ((r : Refusal) → RefusesPatchRel s source id os r → ⊥) → Stays s (after_patch_rel s source id os) t
  patch_rel_stays source id os free =
      patch_rel_from source id os (differs source (not_first (Frozen s source) _ (not_second (LinkNotFound s source id) _ free)) (is_eq (C t.id source)) refl) (interface_from s source) refl (link_at source id s) refl

  -- a relationship of the twin goes, or another
  pub link_dropped : (source id q : List ℕ) → (link_at t.id q (after_drop_rel s source id) ≡ link_at t.id q s) ⊎ (((source ≡ t.id) × (id ≡ q)) × (link_at t.id q (after_drop_rel s source id) ≡ None))
  link_dropped source id q = by (is_eq (key_cmp (t.id, q) (source, id))) refl
    where
      by : (b : Bool) → is_eq (key_cmp (t.id, q) (source, id)) ≡ b → (link_at t.id q (after_drop_rel s source id) ≡ link_at t.id q s) ⊎ (((source ≡ t.id) × (id ≡ q)) × (link_at t.id q (after_drop_rel s source id) ≡ None))
      by false e = inl (edge-without source id s.links w.links t.id q ∙ ap (λ b. cond b None (link_at t.id q s)) e)
      by true e =
          let both : (t.id, q) ≡ (source, id) = same_key (t.id, q) (source, id) e in
          inr ((sym (ap (λ (k : List ℕ × List ℕ). k.0) both), sym (ap (λ (k : List ℕ × List ℕ). k.1) both)), edge-without source id s.links w.links t.id q ∙ ap (λ b. cond b None (link_at t.id q s)) e)
