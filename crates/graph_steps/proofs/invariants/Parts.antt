-- A state in which a component was patched is well typed.
use Rattle.std.proofs.Common.{◌≡◌, ℕ, List, Bool, true, false, cond, bytes_eq, codes, Option, Some, None, Result, Ok, Err, refl, sym, ap, ◌∙◌, subst, is_eq, true≢false}
use Rattle.std.specs.Prelude.{IsTrue}
use Rattle.std.specs.Option.{IsSomeAnd, option_map, option_and_then}
use Rattle.std.proofs.lemmas.Option.{same_Some, none-some}
use Rattle.std.proofs.lemmas.Slice.Eq.{bytes_eq-Decides}
use Rattle.ordered_table.proofs.Flat.{C}
use Rattle.dt_base.specs.names.Grammar.{dtmi_text}
use Rattle.json_decimal.specs.Number.{Number}
use Rattle.json_tree.specs.Values.{Json, text, object, Members, no_members, member}
use Rattle.json_tree.specs.Members.{members_in, value_at}
use Rattle.dtdl_terms.specs.declared.interface.Interface.{Interface}
use Rattle.dtdl_terms.specs.declared.resolved.ResolvedContent.{ResolvedContent}
use Rattle.twin_patch.specs.Objects.{sorted_value, with_member}
use Rattle.twin_patch.specs.Operations.{Operation}
use Rattle.twin_patch.specs.Patched.{patched_from}
use Rattle.twin_value.specs.Breaches.{HasNoBreach, IsBodyBreach, IsModelId, twin_role_of, library_of, text_under}
use Rattle.twin_value.specs.Roles.{Library, Role, value, twin_body, body_member_role}
use Rattle.twin_value.specs.Twins.{picked, joined_members, any_key, with_metadata, without_metadata, is_value_role, is_part_role, model_text}
use Rattle.twin_value.proofs.Bodies.{under, model_told}
use Rattle.graph_asks.specs.declared.refusal.Refusal.{Refusal}
use Rattle.graph_asks.specs.declared.refusal.Refusal.TheVariants as refusals
use Rattle.graph_steps.specs.Inherited.{inherited}
use Rattle.graph_steps.specs.States.{State, Twin, set_of, interface_of, twin_at, part_value, with_twin}
use Rattle.graph_steps.specs.Typed.{AllKeys, FitsModel, TwinIsTyped, LinkIsTyped, WellTyped}
use Rattle.graph_steps.specs.TwinAsks.{TwinNotFound, Frozen, BodyFault, component_at, ComponentNotFound, part_role_in, with_part, RefusesNewPart, RefusesPatchPart, after_patch_part}
use Rattle.graph_steps.proofs.invariants.Unrefused.{not_first, not_second, not_when, some_there}
use Rattle.graph_steps.proofs.invariants.Lists.{all_at}
use Rattle.graph_steps.proofs.invariants.Keyed.{one_text}
use Rattle.graph_steps.proofs.invariants.Members.{value-with}
use Rattle.graph_steps.proofs.invariants.Printed.{value_in-sorted, sorted_clear}
use Rattle.graph_steps.proofs.invariants.Made.{Clear, twin_members, twin_clear, part_role_clear}
use Rattle.graph_steps.proofs.invariants.Twins.{twin_there, twin_with}
use Rattle.graph_steps.proofs.invariants.Kept.{HadModel, link_kept}
use Rattle.graph_steps.proofs.invariants.Puts.{twin_put, keys_with, body_clear}
use Rattle.graph_steps.proofs.invariants.Rels.{live_one}

-- ---- members of a printed twin
keys_at : (p : List ℕ → Bool) (key : List ℕ) (w : Json) (ms : Members Number) → AllKeys (λ k. IsTrue (p k)) ms → value_at key ms ≡ Some w → p key ≡ true
keys_at p key w no_members all e = absurd (none-some w e)
keys_at p key w (member k v ms) all e =
    elim (bytes_eq k key) as (λ b. bytes_eq k key ≡ b → cond b (Some v) (value_at key ms) ≡ Some w → p key ≡ true) [
      | true ↦ λ is h. ap p (sym ((bytes_eq-Decides k key).0 is)) ∙ all.0
      | false ↦ λ is h. keys_at p key w ms all.1 h
    ] refl e

other_key : (p : List ℕ → Bool) (k key : List ℕ) → p k ≡ false → p key ≡ true → bytes_eq k key ≡ false
other_key p k key none some = by (bytes_eq k key) refl
  where
    by : (b : Bool) → bytes_eq k key ≡ b → bytes_eq k key ≡ false
    by true e = absurd (true≢false (sym some ∙ ap p (sym ((bytes_eq-Decides k key).0 e)) ∙ none))
    by false e = e

both_roles : (r : Role) → is_value_role r ≡ true → is_part_role r ≡ true → ⊥
both_roles (value ns s) h g = true≢false (sym g)
both_roles other h g = true≢false (sym h)

first_joined : (q : List ℕ) (ms ns : Members Number) (w : Json) → value_at q ms ≡ Some w → value_at q (joined_members ms ns) ≡ Some w
first_joined q no_members ns w e = absurd (none-some w e)
first_joined q (member k v ms) ns w e =
    elim (bytes_eq k q) as (λ b. cond b (Some v) (value_at q ms) ≡ Some w → cond b (Some v) (value_at q (joined_members ms ns)) ≡ Some w) [
      | true ↦ λ h. h
      | false ↦ λ h. first_joined q ms ns w h
    ] e

last_joined : (q : List ℕ) (ms ns : Members Number) → value_at q ms ≡ None → value_at q (joined_members ms ns) ≡ value_at q ns
last_joined q no_members ns e = refl
last_joined q (member k v ms) ns e =
    elim (bytes_eq k q) as (λ b. cond b (Some v) (value_at q ms) ≡ None → cond b (Some v) (value_at q (joined_members ms ns)) ≡ value_at q ns) [
      | true ↦ λ h. absurd (none-some v (sym h))
      | false ↦ λ h. last_joined q ms ns h
    ] e

any_picked : (q : List ℕ) (becomes : Json → Json) (ms : Members Number) (w : Json) → value_at q ms ≡ Some w → value_at q (picked any_key becomes ms) ≡ Some (becomes w)
any_picked q becomes no_members w e = absurd (none-some w e)
any_picked q becomes (member k v ms) w e =
    elim (bytes_eq k q) as (λ b. cond b (Some v) (value_at q ms) ≡ Some w → cond b (Some (becomes v)) (value_at q (picked any_key becomes ms)) ≡ Some (becomes w)) [
      | true ↦ λ h. ap (λ (x : Json). Some (becomes x)) (same_Some v w h)
      | false ↦ λ h. any_picked q becomes ms w h
    ] e

past : (b : Bool) (v : Json) (rest : Option Json) → b ≡ false → cond b (Some v) rest ≡ rest
past b v rest e = ap (λ c. cond c (Some v) rest) e

-- ---- one component of a printed twin changes
module _ (l : Library) (cs : List ResolvedContent) (id model : List ℕ) (vs ps : Members Number)
    (old : HasNoBreach (IsBodyBreach (twin_body l cs) (sorted_value (object (twin_members id model vs ps)))))
    (all_values : AllKeys (λ key. IsTrue (is_value_role (body_member_role (twin_body l cs) key))) vs) (all_parts : AllKeys (λ key. IsTrue (is_part_role (body_member_role (twin_body l cs) key))) ps) where
  abbrev printed : Json
  printed = sorted_value (object (twin_members id model vs ps))

  past_front : (key : List ℕ) → bytes_eq (codes "$dtId") key ≡ false → bytes_eq (codes "$metadata") key ≡ false → value_at key (twin_members id model vs ps) ≡ value_at key (joined_members vs (picked any_key with_metadata ps))
  past_front key a b =
      past (bytes_eq (codes "$dtId") key) (text id) (value_at key (member (codes "$metadata") (object (member (codes "$model") (text model) no_members)) (joined_members vs (picked any_key with_metadata ps)))) a
      ∙ past (bytes_eq (codes "$metadata") key) (object (member (codes "$model") (text model) no_members)) (value_at key (joined_members vs (picked any_key with_metadata ps))) b

  as_printed : (key : List ℕ) (w : Json) → value_at key (twin_members id model vs ps) ≡ Some w → Clear (twin_body l cs) key w
  as_printed key w e = under (twin_body l cs) printed key (sorted_value w) old (value_in-sorted key (object (twin_members id model vs ps)) ∙ ap (λ (o : Option Json). option_map sorted_value o) e)

  value_stays : (key : List ℕ) (w : Json) → value_at key vs ≡ Some w → Clear (twin_body l cs) key w
  value_stays key w e =
      let is = keys_at (λ k. is_value_role (body_member_role (twin_body l cs) k)) key w vs all_values e in
      as_printed key w
      (past_front key (other_key (λ k. is_value_role (body_member_role (twin_body l cs) k)) (codes "$dtId") key refl is) (other_key (λ k. is_value_role (body_member_role (twin_body l cs) k)) (codes "$metadata") key refl is)
      ∙ first_joined key vs (picked any_key with_metadata ps) w e)

  part_stays : (key : List ℕ) (w : Json) → value_at key ps ≡ Some w → Clear (twin_body l cs) key (with_metadata w)
  part_stays key w e =
      let is = keys_at (λ k. is_part_role (body_member_role (twin_body l cs) k)) key w ps all_parts e in
      as_printed key (with_metadata w)
      (past_front key (other_key (λ k. is_part_role (body_member_role (twin_body l cs) k)) (codes "$dtId") key refl is) (other_key (λ k. is_part_role (body_member_role (twin_body l cs) k)) (codes "$metadata") key refl is)
      ∙ last_joined key vs (picked any_key with_metadata ps) (none (value_at key vs) refl is) ∙ any_picked key with_metadata ps w e)
    where
      none : (o : Option Json) → value_at key vs ≡ o → is_part_role (body_member_role (twin_body l cs) key) ≡ true → value_at key vs ≡ None
      none None f is = f
      none (Some x) f is = absurd (both_roles (body_member_role (twin_body l cs) key) (keys_at (λ k. is_value_role (body_member_role (twin_body l cs) k)) key x vs all_values f) is)

  model_printed : model_text printed ≡ Some model
  model_printed = ap (λ (o : Option Json). option_and_then (text_under (codes "$model")) o) (value_in-sorted (codes "$metadata") (object (twin_members id model vs ps)))

  pub part_put : (name : List ℕ) (x : Json) → Clear (twin_body l cs) name (with_metadata x) → HasNoBreach (IsBodyBreach (twin_body l cs) (sorted_value (object (twin_members id model vs (with_member name x ps)))))
  part_put name x new =
      twin_clear l cs id model vs (with_member name x ps)
      (subst (λ (o : Option (List ℕ)). IsSomeAnd o (λ m. (IsModelId m → ⊥) → ⊥)) model_printed (model_told l cs printed old)) value_stays
      (λ key w e. by key w (bytes_eq name key) refl (sym (value-with key name x ps) ∙ e))
    where
      by : (key : List ℕ) (w : Json) (b : Bool) → bytes_eq name key ≡ b → cond (bytes_eq name key) (Some x) (value_at key ps) ≡ Some w → Clear (twin_body l cs) key (with_metadata w)
      by key w true is e =
          subst (λ (k : List ℕ). Clear (twin_body l cs) k (with_metadata w)) ((bytes_eq-Decides name key).0 is)
          (subst (λ (v : Json). Clear (twin_body l cs) name (with_metadata v)) (same_Some x w (sym (ap (λ b. cond b (Some x) (value_at key ps)) is) ∙ e)) new)
      by key w false is e = part_stays key w (sym (ap (λ b. cond b (Some x) (value_at key ps)) is) ∙ e)

-- ---- a component is patched
module _ (s : State) (id name : List ℕ) (os : List Operation) (w : WellTyped s) (t : Twin) (found : twin_at id s ≡ Some t) (part : Json) (has : component_at name t ≡ Some part)
    (i : Interface) (live : interface_of s t.model ≡ Some i) where
  fits_now : FitsModel (set_of s) i t
  fits_now = all_at (TwinIsTyped s) s.twins t w.fit (twin_there s id t found).1 i live

  is_part : is_part_role (part_role_in s i name) ≡ true
  is_part = keys_at (λ k. is_part_role (body_member_role (twin_role_of (inherited (set_of s) i)) k)) name part (members_in t.parts) fits_now.parts has

  fits_then : (v : Json) → HasNoBreach (IsBodyBreach (part_role_in s i name) v) → FitsModel (set_of s) i (with_part name v t)
  fits_then v clear = record {
    unbroken = part_put (library_of (inherited (set_of s) i)) (inherited (set_of s) i).contents t.id (dtmi_text t.model) (members_in t.values) (members_in t.parts) fits_now.unbroken fits_now.values fits_now.parts name (sorted_value (without_metadata v))
        (sorted_clear (part_role_in s i name) _ (part_role_clear (part_role_in s i name) v is_part clear));
    values = fits_now.values;
    parts = keys_with (λ k. is_part_role (body_member_role (twin_role_of (inherited (set_of s) i)) k)) name (sorted_value (without_metadata v)) (members_in t.parts) is_part fits_now.parts;
  }

  had : (v : Json) (q : List ℕ) (x : Twin) → twin_at q (with_twin (with_part name v t) s) ≡ Some x → HadModel s q x
  had v q x e = by (is_eq (C q t.id)) refl (sym (twin_with (with_part name v t) s q) ∙ e)
    where
      by : (b : Bool) → is_eq (C q t.id) ≡ b → cond (is_eq (C q t.id)) (Some (with_part name v t)) (twin_at q s) ≡ Some x → HadModel s q x
      by true is h =
          let same : with_part name v t ≡ x = same_Some (with_part name v t) x (sym (ap (λ b. cond b (Some (with_part name v t)) (twin_at q s)) is) ∙ h) in
          (t, ap (λ (k : List ℕ). twin_at k s) (one_text q t.id is ∙ (twin_there s id t found).0) ∙ found, ap (λ (u : Twin). u.model) same)
      by false is h = (x, sym (ap (λ b. cond b (Some (with_part name v t)) (twin_at q s)) is) ∙ h, refl)

  changed_to : (v : Json) → ((r : Refusal) → RefusesNewPart s name i t (Ok v) r → ⊥) → WellTyped (with_twin (with_part name v t) s)
  changed_to v unrefused =
      let clear = body_clear (part_role_in s i name) v (not_first (BodyFault (IsBodyBreach (part_role_in s i name) v) v) _ unrefused) in
      twin_put s w (with_part name v t)
      (λ j at. subst (λ (k : Interface). FitsModel (set_of s) k (with_part name v t)) (same_Some i j (sym live ∙ at)) (fits_then v clear))
      (λ l c ends. link_kept s (with_twin (with_part name v t) s).twins s.links l (had v l.source) (had v l.target) (λ u j at on f. f.few) (all_at (LinkIsTyped s) s.links l w.links_fit c))
      (not_second (BodyFault (IsBodyBreach (part_role_in s i name) v) v) _ unrefused)

  pub part_to : (res : Result Json ℕ) → patched_from 0 os (part_value part) ≡ res → ((r : Refusal) → RefusesNewPart s name i t res r → ⊥) → WellTyped (after_patch_part s id name os)
  part_to (Err index) e unrefused = absurd (unrefused (refusals.PatchFault (codes "NoTarget") index) refl)
  part_to (Ok v) e unrefused =
      let put : WellTyped (with_twin (with_part name v t) s) = changed_to v unrefused in
      rw (found, has, e) put

pub part_patched : (s : State) (id name : List ℕ) (os : List Operation) → WellTyped s → ((r : Refusal) → RefusesPatchPart s id name os r → ⊥) → WellTyped (after_patch_part s id name os)
part_patched s id name os w free =
    let t = some_there (twin_at id s) (not_when (twin_at id s ≡ None) (refusals.TwinNotFound id) (not_first _ _ free)) in
    let later = not_second (TwinNotFound s id) _ free in
    let i = live_one s id t.0 t.1 (not_first (Frozen s id) _ later) in
    let rest = not_second (Frozen s id) _ later in
    let part = some_there (component_at name t.0) (λ none. not_first (ComponentNotFound s id name) _ rest (refusals.ComponentNotFound name) (t.0, t.1, none, refl)) in
    part_to s id name os w t.0 t.1 part.0 part.1 i.0 i.1 (patched_from 0 os (part_value part.0)) refl
    (λ r h. not_second (ComponentNotFound s id name) _ rest r (record { twin = t.0; part = part.0; interface = i.0; at = t.1; has = part.1; live = i.1; refuses = h }))
