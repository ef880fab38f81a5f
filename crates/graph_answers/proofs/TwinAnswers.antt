-- An ask on twins has at most one answer.
use Rattle.std.proofs.Common.{◌≡◌, ℕ, ◌<◌, List, length, Option, Some, None, Result, Ok, Err, sym, ap, ◌∙◌, subst}
use Rattle.std.specs.Prelude.{codes}
use Rattle.std.proofs.lemmas.Option.{same_Some}
use Rattle.dt_base.specs.names.Grammar.{Identifier, dtmi_text}
use Rattle.json_tree.specs.Values.{Json}
use Rattle.dtdl_terms.specs.declared.interface.Interface.{Interface}
use Rattle.dtdl_terms.specs.declared.limit.Limit.TheVariants as limits
use Rattle.twin_patch.specs.Operations.{Operation}
use Rattle.twin_patch.specs.Patched.{patched_from}
use Rattle.twin_value.specs.Breaches.{IsBodyBreach, IsOuterBreach, IsTwinBreach}
use Rattle.twin_value.specs.Twins.{model_text}
use Rattle.graph_asks.specs.Answers.{Answer, body}
use Rattle.graph_asks.specs.declared.refusal.Refusal.{Refusal}
use Rattle.graph_asks.specs.declared.refusal.Refusal.TheVariants as refusals
use Rattle.graph_steps.specs.Inherited.{inherited}
use Rattle.graph_steps.specs.Refusals.{or_refuse, refuse_when}
use Rattle.graph_steps.specs.States.{State, Twin, Link, set_of, interface_of, twin_at, twin_value, twin_text, part_value, graph_bytes, with_twin}
use Rattle.graph_steps.specs.TwinAsks.{TwinNotFound, Frozen, Decommissioned, BodyFault, DoesNotFit, TwinFull, TwinInUse, ComponentNotFound, component_at, twin_for, with_body, interface_in, part_role_in, with_part, RefusesBody, RefusesPutTwin, RefusesNewBody, RefusesPatched, RefusesPatchOf, RefusesPatchTwin, RefusesDropTwin, RefusesGetPart, RefusesNewPart, RefusesPartOf, RefusesPatchPart, GivesTwin, GivesPart}
use Rattle.graph_answers.proofs.Refusals.{One, both, one_when, one_is, one_held, one_missing, one_frozen, one_fault, one_ill}

-- ---- a twin comes
one_marked : (s : State) (id model : List ℕ) → One (Decommissioned s id model)
one_marked s id model r q h k = h.5 ∙ sym k.5

pub one_full : (new : State) (t : Twin) → One (TwinFull new t)
one_full new t =
    both (refuse_when (32768 < length (twin_text t)) (refusals.Full limits.TwinBytes))
    (or_refuse (refuse_when (100000 < length new.twins) (refusals.Full limits.Twins)) (refuse_when (268435456 < graph_bytes new) (refusals.Full limits.GraphBytes)))
    (one_when (32768 < length (twin_text t)) (refusals.Full limits.TwinBytes))
    (both (refuse_when (100000 < length new.twins) (refusals.Full limits.Twins)) (refuse_when (268435456 < graph_bytes new) (refusals.Full limits.GraphBytes))
    (one_when (100000 < length new.twins) (refusals.Full limits.Twins))
    (one_when (268435456 < graph_bytes new) (refusals.Full limits.GraphBytes)))

one_body : (s : State) (id model : List ℕ) (v : Json) (o : Option Interface) → One (RefusesBody s id model v o)
one_body s id model v None = one_is (refusals.ModelNotFound model)
one_body s id model v (Some i) =
    let new = with_body s id (Some i) v in
    let twin = twin_for s id i v in
    let Broken = IsTwinBreach (inherited (set_of s) i) v in
    both (Decommissioned s id model) (or_refuse (BodyFault Broken v) (or_refuse (DoesNotFit new id) (TwinFull new twin))) (one_marked s id model)
    (both (BodyFault Broken v) (or_refuse (DoesNotFit new id) (TwinFull new twin)) (one_fault Broken v)
    (both (DoesNotFit new id) (TwinFull new twin) (one_ill new id) (one_full new twin)))

pub one_put_twin : (s : State) (id : List ℕ) (model : Identifier) (v : Json) → One (RefusesPutTwin s id model v)
one_put_twin s id model v =
    both (Frozen s id) (RefusesBody s id (dtmi_text model) v (interface_of s model)) (one_frozen s id) (one_body s id (dtmi_text model) v (interface_of s model))

pub one_twin : (s : State) (id : List ℕ) (x y : Answer) → GivesTwin s id x → GivesTwin s id y → x ≡ y
one_twin s id x y (t, at, e) (u, is, d) = e ∙ ap (λ (z : Twin). body (twin_value z)) (same_Some t u (sym at ∙ is)) ∙ sym d

-- ---- a twin is patched
abbrev Newly : State → List ℕ → Json → Refusal → Type 0
Newly s id v r = (model : List ℕ) × (model_text v ≡ Some model) × RefusesBody s id model v (interface_in s v) r

one_new : (s : State) (id : List ℕ) (v : Json) → One (RefusesNewBody s id v)
one_new s id v =
    both (BodyFault (IsOuterBreach v) v) (Newly s id v) (one_fault (IsOuterBreach v) v)
    (one_held (model_text v) (λ model. RefusesBody s id model v (interface_in s v)) (λ model. one_body s id model v (interface_in s v)))

one_patched : (s : State) (id : List ℕ) (result : Result Json ℕ) → One (RefusesPatched s id result)
one_patched s id (Err index) = one_is (refusals.PatchFault (codes "NoTarget") index)
one_patched s id (Ok v) = one_new s id v

abbrev Patches : State → List ℕ → List Operation → Refusal → Type 0
Patches s id os r = (t : Twin) × (twin_at id s ≡ Some t) × RefusesPatchOf s os t r

pub one_patch_twin : (s : State) (id : List ℕ) (os : List Operation) → One (RefusesPatchTwin s id os)
one_patch_twin s id os =
    both (TwinNotFound s id) (or_refuse (Frozen s id) (Patches s id os)) (one_missing s id)
    (both (Frozen s id) (Patches s id os) (one_frozen s id)
    (one_held (twin_at id s) (λ t. RefusesPatchOf s os t) (λ t. one_patched s t.id (patched_from 0 os (twin_value t)))))

-- ---- a twin goes
one_use : (s : State) (id : List ℕ) → One (TwinInUse s id)
one_use s id r q (l, is, e) (k, also, d) = e ∙ ap (λ (z : Link). refusals.TwinInUse z.id z.source) (same_Some l k (sym is ∙ also)) ∙ sym d

pub one_drop_twin : (s : State) (id : List ℕ) → One (RefusesDropTwin s id)
one_drop_twin s id = both (TwinNotFound s id) (TwinInUse s id) (one_missing s id) (one_use s id)

-- ---- components
one_component : (s : State) (id name : List ℕ) → One (ComponentNotFound s id name)
one_component s id name r q h k = h.3 ∙ sym k.3

pub one_get_part : (s : State) (id name : List ℕ) → One (RefusesGetPart s id name)
one_get_part s id name = both (TwinNotFound s id) (ComponentNotFound s id name) (one_missing s id) (one_component s id name)

pub one_part : (s : State) (id name : List ℕ) (x y : Answer) → GivesPart s id name x → GivesPart s id name y → x ≡ y
one_part s id name x y (t, v, at, has, e) (u, w, is, also, d) =
    let same : t ≡ u = same_Some t u (sym at ∙ is) in
    let one : v ≡ w = same_Some v w (sym has ∙ ap (component_at name) same ∙ also) in
    e ∙ ap (λ (z : Json). body (part_value z)) one ∙ sym d

one_new_part : (s : State) (name : List ℕ) (i : Interface) (t : Twin) (result : Result Json ℕ) → One (RefusesNewPart s name i t result)
one_new_part s name i t (Err index) = one_is (refusals.PatchFault (codes "NoTarget") index)
one_new_part s name i t (Ok v) =
    let Broken = IsBodyBreach (part_role_in s i name) v in
    let new = with_twin (with_part name v t) s in
    both (BodyFault Broken v) (TwinFull new (with_part name v t)) (one_fault Broken v) (one_full new (with_part name v t))

one_part_of : (s : State) (id name : List ℕ) (os : List Operation) → One (RefusesPartOf s id name os)
one_part_of s id name os r q h k =
    let same : h.twin ≡ k.twin = same_Some h.twin k.twin (sym h.at ∙ k.at) in
    let part : h.part ≡ k.part = same_Some h.part k.part (sym h.has ∙ ap (component_at name) same ∙ k.has) in
    let model : h.interface ≡ k.interface = same_Some h.interface k.interface (sym h.live ∙ ap (λ (z : Twin). interface_of s z.model) same ∙ k.live) in
    let one : RefusesNewPart s name k.interface k.twin (patched_from 0 os (part_value k.part)) r =
    subst (λ (i : Interface). RefusesNewPart s name i k.twin (patched_from 0 os (part_value k.part)) r) model
    (subst (λ (z : Twin). RefusesNewPart s name h.interface z (patched_from 0 os (part_value k.part)) r) same
    (subst (λ (v : Json). RefusesNewPart s name h.interface h.twin (patched_from 0 os (part_value v)) r) part h.refuses)) in
    one_new_part s name k.interface k.twin (patched_from 0 os (part_value k.part)) r q one k.refuses

pub one_patch_part : (s : State) (id name : List ℕ) (os : List Operation) → One (RefusesPatchPart s id name os)
one_patch_part s id name os =
    both (TwinNotFound s id) (or_refuse (Frozen s id) (or_refuse (ComponentNotFound s id name) (RefusesPartOf s id name os))) (one_missing s id)
    (both (Frozen s id) (or_refuse (ComponentNotFound s id name) (RefusesPartOf s id name os)) (one_frozen s id)
    (both (ComponentNotFound s id name) (RefusesPartOf s id name os) (one_component s id name) (one_part_of s id name os)))
