-- A twin or a component that is patched, judged.
use Rattle.std.proofs.Common.{◌≡◌, ℕ, List, Option, Some, inr, Result, Ok, refl, sym, ap, ◌∙◌, subst}
use Rattle.std.specs.Prelude.{MatchResult}
use Rattle.std.proofs.lemmas.Option.{none-some, same_Some}
use Rattle.dt_base.specs.names.Grammar.{Identifier, dtmi_text}
use Rattle.dtdl_terms.specs.declared.interface.Interface.{Interface}
use Rattle.json_tree.specs.Values.{Json}
use Rattle.twin_patch.specs.Operations.{Operation}
use Rattle.twin_patch.specs.Patched.{patched_from}
use Rattle.twin_value.specs.Breaches.{HasNoBreach, IsBodyBreach, IsOuterBreach}
use Rattle.twin_value.specs.Twins.{model_text}
use Rattle.twin_value.specs.declared.twin.Twin as values
use Rattle.graph_asks.specs.declared.refusal.Refusal.{Refusal}
use Rattle.graph_steps.specs.bodies.Bodies.{FailsBy}
use Rattle.graph_steps.specs.bodies.Kept.{twin_view}
use Rattle.graph_steps.specs.declared.bodies.failure.BodyFailure.{BodyFailure}
use Rattle.graph_steps.proofs.invariants.Twins.{twin_there}
use Rattle.graph_steps.specs.Refusals.{or_refuse}
use Rattle.graph_steps.specs.States.{State, Twin, interface_of, twin_at, twin_value, with_twin}
use Rattle.graph_steps.specs.TwinAsks.{TwinNotFound, Frozen, BodyFault, TwinFull, RefusesBody, RefusesNewBody, RefusesPatched, RefusesPatchOf, RefusesPatchTwin, RefusesNewPart, interface_in, with_body, with_patched, after_patch_twin, part_role_in, with_part, with_new_part}
use Rattle.graph_steps.specs.held.Judged.{Unrefused}
use Rattle.graph_judges.specs.declared.twins.new_twin.NewTwin.{NewTwin}
use Rattle.graph_judges.proofs.twins.Judged.{free_both, judged_as}
use Rattle.graph_judges.proofs.twins.Judging.{clear_free, IsJudgedBody}
use Rattle.graph_judges.proofs.twins.Named.{same_interface}

-- ---- the body that a patch made
module _ (s : State) (id : List ℕ) (v : Json) where
  abbrev Outer : Refusal → Type 0
  Outer = BodyFault (IsOuterBreach v) v

  abbrev Inner : Refusal → Type 0
  Inner r = (model : List ℕ) × (model_text v ≡ Some model) × RefusesBody s id model v (interface_in s v) r

  abbrev pub IsJudgedNew : Result NewTwin BodyFailure → Type 0
  IsJudgedNew res = MatchResult res (λ (new : NewTwin). Unrefused (RefusesNewBody s id v) × (with_twin (twin_view new.twin) s ≡ with_body s id (interface_in s v) v)) (FailsBy (RefusesNewBody s id v))

  pub new_judged : HasNoBreach (IsOuterBreach v) → (model : Identifier) → model_text v ≡ Some (dtmi_text model) → (res : Result NewTwin BodyFailure) → IsJudgedBody s id model v (interface_of s model) res → IsJudgedNew res
  new_judged clear model named res h =
      let same : interface_in s v ≡ interface_of s model = same_interface s v model named in
      judged_as (λ (new : NewTwin). Unrefused (RefusesBody s id (dtmi_text model) v (interface_of s model)) × (with_twin (twin_view new.twin) s ≡ with_body s id (interface_of s model) v))
      (λ (new : NewTwin). Unrefused (RefusesNewBody s id v) × (with_twin (twin_view new.twin) s ≡ with_body s id (interface_in s v) v)) (RefusesBody s id (dtmi_text model) v (interface_of s model)) (RefusesNewBody s id v)
      (λ new k. (
        free_both Outer Inner (clear_free (IsOuterBreach v) v clear)
            (λ r refused.
            let text : refused.0 ≡ dtmi_text model = same_Some refused.0 (dtmi_text model) (sym refused.1 ∙ named) in
            k.0 r (subst (λ (o : Option Interface). RefusesBody s id (dtmi_text model) v o r) same (subst (λ (m : List ℕ). RefusesBody s id m v (interface_in s v) r) text refused.2))),
        k.1 ∙ ap (λ (o : Option Interface). with_body s id o v) (sym same),
      ))
      (λ r k. inr (clear_free (IsOuterBreach v) v clear, (dtmi_text model, named, subst (λ (o : Option Interface). RefusesBody s id (dtmi_text model) v o r) (sym same) k))) res h

-- ---- a twin that is patched
abbrev pub IsJudgedPatched : State → List ℕ → Result Json ℕ → Result NewTwin BodyFailure → Type 0
IsJudgedPatched s id made res = MatchResult res (λ (new : NewTwin). Unrefused (RefusesPatched s id made) × (with_twin (twin_view new.twin) s ≡ with_patched s id made)) (FailsBy (RefusesPatched s id made))

module _ (s : State) (id : List ℕ) (os : List Operation) (before : Json) where
  pub patched_judged : (v : Json) → patched_from 0 os before ≡ Ok v → (res : Result NewTwin BodyFailure) → IsJudgedNew s id v res → IsJudgedPatched s id (patched_from 0 os before) res
  patched_judged v made res h = subst (λ (m : Result Json ℕ). IsJudgedPatched s id m res) (sym made) h

there : (s : State) (id : List ℕ) (t : Twin) → twin_at id s ≡ Some t → Unrefused (TwinNotFound s id)
there s id t found r h = none-some t (sym h.0 ∙ found)

abbrev pub IsJudgedPatch : State → List ℕ → List Operation → Result NewTwin BodyFailure → Type 0
IsJudgedPatch s id os res = MatchResult res (λ (new : NewTwin). Unrefused (RefusesPatchTwin s id os) × (with_twin (twin_view new.twin) s ≡ after_patch_twin s id os)) (FailsBy (RefusesPatchTwin s id os))

module _ (s : State) (id : List ℕ) (os : List Operation) (t : Twin) (found : twin_at id s ≡ Some t) where
  abbrev Edited : Refusal → Type 0
  Edited r = (u : Twin) × (twin_at id s ≡ Some u) × RefusesPatchOf s os u r

  abbrev made : Result Json ℕ
  made = patched_from 0 os (twin_value t)

  same_after : after_patch_twin s id os ≡ with_patched s id (patched_from 0 os (twin_value t))
  same_after = rw found refl

  pub patch_judged : Unrefused (Frozen s id) → (res : Result NewTwin BodyFailure) → IsJudgedPatched s id (patched_from 0 os (twin_value t)) res → IsJudgedPatch s id os res
  patch_judged thawed res h =
      let own : t.id ≡ id = (twin_there s id t found).0 in
      judged_as (λ (new : NewTwin). Unrefused (RefusesPatched s id made) × (with_twin (twin_view new.twin) s ≡ with_patched s id made)) (λ (new : NewTwin). Unrefused (RefusesPatchTwin s id os) × (with_twin (twin_view new.twin) s ≡ after_patch_twin s id os))
      (RefusesPatched s id made) (RefusesPatchTwin s id os)
      (λ new k. (
        free_both (TwinNotFound s id) (or_refuse (Frozen s id) Edited) (there s id t found)
            (free_both (Frozen s id) Edited thawed
            (λ r refused.
            let same : refused.0 ≡ t = same_Some refused.0 t (sym refused.1 ∙ found) in
            k.0 r (subst (λ (q : List ℕ). RefusesPatched s q made r) own (subst (λ (u : Twin). RefusesPatchOf s os u r) same refused.2)))),
        k.1 ∙ sym same_after,
      ))
      (λ r k. inr (there s id t found, inr (thawed, (t, found, subst (λ (q : List ℕ). RefusesPatched s q made r) (sym own) k)))) res h

-- ---- a component that is patched
module _ (s : State) (name : List ℕ) (i : Interface) (t : Twin) (v : Json) where
  abbrev Broken : Refusal → Type 0
  Broken = BodyFault (IsBodyBreach (part_role_in s i name) v) v

  abbrev Full : Twin → Refusal → Type 0
  Full u = TwinFull (with_twin u s) u

  abbrev pub IsJudgedValues : Result NewTwin BodyFailure → Type 0
  IsJudgedValues res = MatchResult res (λ (new : NewTwin). Unrefused (RefusesNewPart s name i t (Ok v)) × (twin_view new.twin ≡ with_part name v t)) (FailsBy (RefusesNewPart s name i t (Ok v)))

  pub values_judged : HasNoBreach (IsBodyBreach (part_role_in s i name) v) → (x : values.Twin) → twin_view x ≡ with_part name v t → (res : Result NewTwin BodyFailure)
      → MatchResult res (λ (new : NewTwin). Unrefused (TwinFull (with_twin (twin_view x) s) (twin_view x)) × (new.twin ≡ x)) (FailsBy (TwinFull (with_twin (twin_view x) s) (twin_view x))) → IsJudgedValues res
  values_judged clear x same res h =
      let clean : Unrefused Broken = clear_free (IsBodyBreach (part_role_in s i name) v) v clear in
      judged_as (λ (new : NewTwin). Unrefused (Full (twin_view x)) × (new.twin ≡ x)) (λ (new : NewTwin). Unrefused (RefusesNewPart s name i t (Ok v)) × (twin_view new.twin ≡ with_part name v t)) (Full (twin_view x)) (RefusesNewPart s name i t (Ok v))
      (λ new k. (free_both Broken (Full (with_part name v t)) clean (subst (λ (u : Twin). Unrefused (Full u)) same k.0), ap (λ (u : values.Twin). twin_view u) k.1 ∙ same))
      (λ r k. inr (clean, subst (λ (u : Twin). Full u r) same k)) res h

abbrev pub IsJudgedPart : State → List ℕ → Interface → Twin → Result Json ℕ → Result NewTwin BodyFailure → Type 0
IsJudgedPart s name i t made res = MatchResult res (λ (new : NewTwin). Unrefused (RefusesNewPart s name i t made) × (with_twin (twin_view new.twin) s ≡ with_new_part s name t made)) (FailsBy (RefusesNewPart s name i t made))

module _ (s : State) (name : List ℕ) (i : Interface) (t : Twin) (os : List Operation) (before : Json) where
  pub part_judged : (v : Json) → patched_from 0 os before ≡ Ok v → (res : Result NewTwin BodyFailure) → IsJudgedValues s name i t v res → IsJudgedPart s name i t (patched_from 0 os before) res
  part_judged v made res h =
      subst (λ (m : Result Json ℕ). IsJudgedPart s name i t m res) (sym made)
      (judged_as (λ (new : NewTwin). Unrefused (RefusesNewPart s name i t (Ok v)) × (twin_view new.twin ≡ with_part name v t)) (λ (new : NewTwin). Unrefused (RefusesNewPart s name i t (Ok v)) × (with_twin (twin_view new.twin) s ≡ with_twin (with_part name v t) s))
      (RefusesNewPart s name i t (Ok v)) (RefusesNewPart s name i t (Ok v)) (λ new k. (k.0, ap (λ (u : Twin). with_twin u s) k.1)) (λ r k. k) res h)
