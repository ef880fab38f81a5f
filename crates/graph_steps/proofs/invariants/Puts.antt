-- A state to which a twin came, or in which one or its component was patched, is well typed.
use Rattle.std.proofs.Common.{◌≡◌, ℕ, ◌<◌, ◌≤◌, List, length, Bool, true, false, cond, bytes_eq, Option, Some, None, Result, Ok, Err, refl, sym, ap, ◌∙◌, subst, Less, Equal, Greater, arith}
use Rattle.std.specs.Prelude.{Contains, IsTrue}
use Rattle.std.proofs.lemmas.Option.{same_Some}
use Rattle.std.specs.Ordering.{match_ordering}
use Rattle.std.proofs.lemmas.Slice.Eq.{bytes_eq-Decides}
use Rattle.ordered_table.proofs.Flat.{C}
use Rattle.dt_base.specs.names.Grammar.{Identifier, dtmi_text}
use Rattle.json_decimal.specs.Number.{Number}
use Rattle.json_tree.specs.Values.{Json, Members, no_members, member}
use Rattle.json_tree.specs.Members.{members_in}
use Rattle.dtdl_terms.specs.declared.interface.Interface.{Interface}
use Rattle.dtdl_terms.specs.declared.limit.Limit.TheVariants as limits
use Rattle.model_life.proofs.resolution.ByKey.{in_contained, in_found, at-spelling}
use Rattle.twin_patch.specs.Objects.{sorted_value, sorted_members, with_member}
use Rattle.twin_patch.specs.Operations.{Operation}
use Rattle.twin_patch.specs.Patched.{patched_from}
use Rattle.twin_value.specs.Breaches.{HasNoBreach, IsBodyBreach, IsOuterBreach, IsTwinBreach, twin_role_of, library_of}
use Rattle.twin_value.specs.Codes.{code_name}
use Rattle.twin_value.specs.Roles.{Role, body_member_role}
use Rattle.twin_value.specs.Twins.{picked, same_value, without_metadata, is_value_role, is_part_role, model_text}
use Rattle.graph_asks.specs.declared.refusal.At.TheVariants as places
use Rattle.graph_asks.specs.declared.refusal.Refusal.{Refusal}
use Rattle.graph_asks.specs.declared.refusal.Refusal.TheVariants as refusals
use Rattle.graph_steps.specs.Inherited.{inherited}
use Rattle.graph_steps.specs.Refusals.{refuse_when}
use Rattle.graph_steps.specs.States.{State, Twin, Link, set_of, interface_of, twin_at, is_end, twin_value, twin_text, graph_bytes, with_twin}
use Rattle.graph_steps.specs.Typed.{AllKeys, FitsModel, TwinIsTyped, HasEnds, LinkIsTyped, WellTyped}
use Rattle.graph_steps.specs.TwinAsks.{TwinNotFound, Frozen, Decommissioned, BodyFault, DoesNotFit, TwinFull, twin_for, with_body, RefusesBody, RefusesPutTwin, after_put_twin, interface_named, interface_in, RefusesNewBody, RefusesPatched, RefusesPatchTwin, with_patched, after_patch_twin}
use Rattle.graph_steps.proofs.invariants.Unrefused.{not_first, not_second, not_when, some_there}
use Rattle.graph_steps.proofs.invariants.Lists.{all_at, all_from, found_passes}
use Rattle.graph_steps.proofs.invariants.Keyed.{all-with}
use Rattle.graph_steps.proofs.invariants.Twins.{apart, twin_there, twin_else, still_there, in-order-with}
use Rattle.graph_steps.proofs.invariants.Kept.{link_kept}
use Rattle.graph_steps.proofs.invariants.Drops.{neither}
use Rattle.graph_steps.proofs.invariants.Firsts.{no_breach}
use Rattle.graph_steps.proofs.invariants.Made.{made_twin_clear}
use Rattle.graph_steps.proofs.invariants.Stable.{all_fit}

-- ---- a twin that fits comes, or takes the place of another
module _ (s : State) (w : WellTyped s) (t : Twin) (fits : TwinIsTyped s t) (links : (l : Link) → Contains s.links l → is_end t.id l ≡ true → LinkIsTyped (with_twin t s) l)
    (full : (r : Refusal) → TwinFull (with_twin t s) t r → ⊥) where
  kept : (l : Link) → Contains s.links l → (b : Bool) → is_end t.id l ≡ b → LinkIsTyped (with_twin t s) l
  kept l c true e = links l c e
  kept l c false e =
      let off = neither (bytes_eq l.source t.id) (bytes_eq l.target t.id) e in
      link_kept s (with_twin t s).twins s.links l (λ x found. (x, sym (twin_else t s l.source (apart l.source t.id off.0)) ∙ found, refl))
      (λ x found. (x, sym (twin_else t s l.target (apart l.target t.id off.1)) ∙ found, refl)) (λ u i at live f. f.few) (all_at (LinkIsTyped s) s.links l w.links_fit c)

  pub twin_put : WellTyped (with_twin t s)
  twin_put =
      let long = not_when (32768 < length (twin_text t)) (refusals.Full limits.TwinBytes) (not_first _ _ full) in
      let later = not_second (refuse_when (32768 < length (twin_text t)) (refusals.Full limits.TwinBytes)) _ full in
      let many = not_when (100000 < length (with_twin t s).twins) (refusals.Full limits.Twins) (not_first _ _ later) in
      let bytes = not_when (268435456 < graph_bytes (with_twin t s)) (refusals.Full limits.GraphBytes) (not_second (refuse_when (100000 < length (with_twin t s).twins) (refusals.Full limits.Twins)) _ later) in
      record {
        models = w.models;
        twins = in-order-with t s w.twins;
        links = w.links;
        ends = all_from (HasEnds (with_twin t s)) s.links (λ l c. let has = all_at (HasEnds s) s.links l w.ends c in (still_there t s l.source has.0, still_there t s l.target has.1));
        fit = all-with (λ (u : Twin). u.id) C (TwinIsTyped s) t s.twins fits w.fit;
        links_fit = all_from (LinkIsTyped (with_twin t s)) s.links (λ l c. kept l c (is_end t.id l) refl);
        limits = record {
          models = w.limits.models;
          twin_bytes = all-with (λ (u : Twin). u.id) C (λ (u : Twin). length (twin_text u) ≤ 32768) t s.twins (omega (arith, long)) w.limits.twin_bytes;
          link_bytes = w.limits.link_bytes;
          twins = omega (arith, many);
          links = w.limits.links;
          graph_bytes = omega (arith, bytes);
        };
      }

-- ---- the twin of a body
pub keys_with : (p : List ℕ → Bool) (key : List ℕ) (v : Json) (ms : Members Number) → IsTrue (p key) → AllKeys (λ k. IsTrue (p k)) ms → AllKeys (λ k. IsTrue (p k)) (with_member key v ms)
keys_with p key v no_members h all = (h, tt)
keys_with p key v (member k x ms) h all =
    elim (C key k) as (λ o. AllKeys (λ k. IsTrue (p k)) (match_ordering o (member key v (member k x ms)) (member k v ms) (member k x (with_member key v ms)))) [
      | Less ↦ (h, all)
      | Equal ↦ all
      | Greater ↦ (all.0, keys_with p key v ms h all.1)
    ]

keys_sorted : (p : List ℕ → Bool) (ms : Members Number) → AllKeys (λ k. IsTrue (p k)) ms → AllKeys (λ k. IsTrue (p k)) (sorted_members ms)
keys_sorted p no_members all = tt
keys_sorted p (member k v ms) all = keys_with p k (sorted_value v) (sorted_members ms) all.0 (keys_sorted p ms all.1)

keys_picked : (p : List ℕ → Bool) (becomes : Json → Json) (ms : Members Number) → AllKeys (λ k. IsTrue (p k)) (picked p becomes ms)
keys_picked p becomes no_members = tt
keys_picked p becomes (member k v ms) =
    elim (p k) as (λ b. p k ≡ b → AllKeys (λ k. IsTrue (p k)) (cond b (member k (becomes v) (picked p becomes ms)) (picked p becomes ms))) [
      | true ↦ λ e. (e, keys_picked p becomes ms)
      | false ↦ λ e. keys_picked p becomes ms
    ] refl

pub body_clear : (r : Role) (v : Json) → ((q : Refusal) → BodyFault (IsBodyBreach r v) v q → ⊥) → HasNoBreach (IsBodyBreach r v)
body_clear r v none = no_breach r v (λ place broken first pointer is. none (refusals.BodyFault (places.Pointer pointer) (code_name broken)) (place, pointer, broken, first, is, refl))

module _ (s : State) (w : WellTyped s) (id model : List ℕ) (i : Interface) (v : Json) (there : interface_of s i.id ≡ Some i) (named_in : model_text v ≡ Some (dtmi_text i.id))
    (free : (r : Refusal) → RefusesBody s id model v (Some i) r → ⊥) where
  pub body_put : WellTyped (with_body s id (Some i) v)
  body_put =
      let open_model = not_second (Decommissioned s id model) _ free in
      let clear = body_clear (twin_role_of (inherited (set_of s) i)) v (not_first (BodyFault (IsTwinBreach (inherited (set_of s) i) v) v) _ open_model) in
      let fitting = not_second (BodyFault (IsTwinBreach (inherited (set_of s) i) v) v) _ open_model in
      let fits : FitsModel (set_of s) i (twin_for s id i v) = record {
        unbroken = made_twin_clear (library_of (inherited (set_of s) i)) (inherited (set_of s) i).contents v id (dtmi_text i.id) named_in clear;
        values = keys_sorted (λ key. is_value_role (body_member_role (twin_role_of (inherited (set_of s) i)) key)) _ (keys_picked (λ key. is_value_role (body_member_role (twin_role_of (inherited (set_of s) i)) key)) same_value (members_in v));
        parts = keys_sorted (λ key. is_part_role (body_member_role (twin_role_of (inherited (set_of s) i)) key)) _ (keys_picked (λ key. is_part_role (body_member_role (twin_role_of (inherited (set_of s) i)) key)) without_metadata (members_in v));
      } in
      twin_put s w (twin_for s id i v) (λ j live. subst (λ (x : Interface). FitsModel (set_of s) x (twin_for s id i v)) (same_Some i j (sym there ∙ live)) fits)
      (all_fit (with_body s id (Some i) v) id w.links (not_first (DoesNotFit (with_body s id (Some i) v) id) _ fitting))
      (not_second (DoesNotFit (with_body s id (Some i) v) id) _ fitting)

-- ---- a twin is put
module _ (s : State) (id : List ℕ) (model : Identifier) (v : Json) (w : WellTyped s) (named_in : model_text v ≡ Some (dtmi_text model)) (free : (r : Refusal) → RefusesPutTwin s id model v r → ⊥) where
  put_of : (o : Option Interface) → interface_of s model ≡ o → ((r : Refusal) → RefusesBody s id (dtmi_text model) v o r → ⊥) → WellTyped (with_body s id o v)
  put_of None e unrefused = w
  put_of (Some i) e unrefused =
      let own : interface_of s i.id ≡ Some i = in_found (λ (j : Interface). j.id) dtmi_text (dtmi_text model) (set_of s) i e in
      let text : dtmi_text model ≡ dtmi_text i.id = at-spelling (λ (j : Interface). j.id) dtmi_text (dtmi_text model) (set_of s) i e in
      body_put s w id (dtmi_text model) i v own (named_in ∙ ap Some text) unrefused

  pub twin_came : WellTyped (after_put_twin s id model v)
  twin_came = put_of (interface_of s model) refl (not_second (Frozen s id) _ free)

-- ---- a twin is patched
module _ (s : State) (id : List ℕ) (os : List Operation) (w : WellTyped s) where
  from_text : (model : List ℕ) (v : Json) → model_text v ≡ Some model → (o : Option Interface) → interface_named s model ≡ o → ((r : Refusal) → RefusesBody s id model v o r → ⊥) → WellTyped (with_body s id o v)
  from_text model v named_in None e unrefused = w
  from_text model v named_in (Some i) e unrefused =
      let found = found_passes (λ (j : Interface). bytes_eq (dtmi_text j.id) model) (set_of s) i e in
      let own : interface_of s i.id ≡ Some i = in_contained (λ (j : Interface). j.id) dtmi_text (set_of s) i w.models.ordered found.1 in
      body_put s w id model i v own (named_in ∙ ap Some (sym ((bytes_eq-Decides (dtmi_text i.id) model).0 found.0))) unrefused

  by_text : (o : Option (List ℕ)) (v : Json) → model_text v ≡ o → ((r : Refusal) → RefusesNewBody s id v r → ⊥) → WellTyped (with_body s id (interface_in s v) v)
  by_text None v e unrefused = rw e w
  by_text (Some model) v e unrefused =
      let same : interface_in s v ≡ interface_named s model = rw e refl in
      let put : WellTyped (with_body s id (interface_named s model) v) =
      from_text model v e (interface_named s model) refl (λ r h. not_second (BodyFault (IsOuterBreach v) v) _ unrefused r (model, e, subst (λ (o : Option Interface). RefusesBody s id model v o r) (sym same) h)) in
      subst (λ (o : Option Interface). WellTyped (with_body s id o v)) (sym same) put

  by_result : (res : Result Json ℕ) → ((r : Refusal) → RefusesPatched s id res r → ⊥) → WellTyped (with_patched s id res)
  by_result (Err index) unrefused = w
  by_result (Ok v) unrefused = by_text (model_text v) v refl unrefused

  pub twin_patched : ((r : Refusal) → RefusesPatchTwin s id os r → ⊥) → WellTyped (after_patch_twin s id os)
  twin_patched free =
      let t = some_there (twin_at id s) (not_when (twin_at id s ≡ None) (refusals.TwinNotFound id) (not_first _ _ free)) in
      let later = not_second (Frozen s id) _ (not_second (TwinNotFound s id) _ free) in
      let own : t.0.id ≡ id = (twin_there s id t.0 t.1).0 in
      let put : WellTyped (with_patched s id (patched_from 0 os (twin_value t.0))) =
      by_result (patched_from 0 os (twin_value t.0)) (λ r h. later r (t.0, t.1, subst (λ (q : List ℕ). RefusesPatched s q (patched_from 0 os (twin_value t.0)) r) (sym own) h)) in
      rw t.1 put
