-- A twin that comes with a body, judged.
use Rattle.std.proofs.Common.{◌≡◌, ℕ, List, Option, Some, inr, Result, sym, ap, ◌∙◌, subst}
use Rattle.std.specs.Prelude.{MatchResult}
use Rattle.dt_base.specs.names.Grammar.{Identifier, dtmi_text}
use Rattle.dtdl_terms.specs.declared.interface.Interface.{Interface}
use Rattle.json_tree.specs.Values.{Json}
use Rattle.model_life.proofs.resolution.ByKey.{at-spelling, in_found}
use Rattle.twin_value.specs.Breaches.{HasNoBreach, IsTwinBreach}
use Rattle.twin_value.specs.declared.code.BodyCode.{BodyCode}
use Rattle.twin_value.specs.declared.twin.Twin as values
use Rattle.graph_asks.specs.declared.refusal.Refusal.{Refusal}
use Rattle.graph_steps.specs.bodies.Bodies.{FailsBy}
use Rattle.graph_steps.specs.bodies.Kept.{twin_view}
use Rattle.graph_steps.specs.declared.bodies.failure.BodyFailure.{BodyFailure}
use Rattle.graph_steps.specs.Inherited.{inherited}
use Rattle.graph_steps.specs.Refusals.{or_refuse}
use Rattle.graph_steps.specs.States.{State, Twin, set_of, interface_of, with_twin}
use Rattle.graph_steps.specs.TwinAsks.{Decommissioned, BodyFault, DoesNotFit, TwinFull, RefusesBody, twin_for, with_body}
use Rattle.graph_steps.specs.held.Judged.{Unrefused}
use Rattle.graph_judges.specs.declared.twins.new_twin.NewTwin.{NewTwin}
use Rattle.graph_judges.proofs.twins.Judged.{free_both, judged_as}

pub clear_free : (Broken : List ℕ → BodyCode → Type 0) (v : Json) → HasNoBreach Broken → Unrefused (BodyFault Broken v)
clear_free Broken v clear r (place, pointer, code, first, is, e) = clear place code first.breach

-- What a twin without breach is refused for.
abbrev pub Unfit : State → Twin → Refusal → Type 0
Unfit s t = or_refuse (DoesNotFit (with_twin t s) t.id) (TwinFull (with_twin t s) t)

module _ (s : State) (id : List ℕ) (i : Interface) (v : Json) where
  abbrev Marked : Refusal → Type 0
  Marked = Decommissioned s id (dtmi_text i.id)

  abbrev Faulty : Refusal → Type 0
  Faulty = BodyFault (IsTwinBreach (inherited (set_of s) i) v) v

  abbrev made : Twin
  made = twin_for s id i v

  abbrev pub IsJudgedOf : Result NewTwin BodyFailure → Type 0
  IsJudgedOf res = MatchResult res (λ (new : NewTwin). Unrefused (RefusesBody s id (dtmi_text i.id) v (Some i)) × (twin_view new.twin ≡ twin_for s id i v)) (FailsBy (RefusesBody s id (dtmi_text i.id) v (Some i)))

  module _ (free : Unrefused Marked) (clear : HasNoBreach (IsTwinBreach (inherited (set_of s) i) v)) where
    faultless : Unrefused Faulty
    faultless = clear_free (IsTwinBreach (inherited (set_of s) i) v) v clear

    pub body_judged : (twin : values.Twin) → twin_view twin ≡ twin_for s id i v → (res : Result NewTwin BodyFailure)
        → MatchResult res (λ (new : NewTwin). Unrefused (Unfit s (twin_view twin)) × (new.twin ≡ twin)) (FailsBy (Unfit s (twin_view twin))) → IsJudgedOf res
    body_judged twin same res h =
        judged_as (λ (new : NewTwin). Unrefused (Unfit s (twin_view twin)) × (new.twin ≡ twin)) (λ (new : NewTwin). Unrefused (RefusesBody s id (dtmi_text i.id) v (Some i)) × (twin_view new.twin ≡ twin_for s id i v))
        (Unfit s (twin_view twin)) (RefusesBody s id (dtmi_text i.id) v (Some i))
        (λ new k. (
          free_both Marked (or_refuse Faulty (Unfit s made)) free (free_both Faulty (Unfit s made) faultless (subst (λ (t : Twin). Unrefused (Unfit s t)) same k.0)),
          ap (λ (t : values.Twin). twin_view t) k.1 ∙ same,
        ))
        (λ r k. inr (free, inr (faultless, subst (λ (t : Twin). Unfit s t r) same k))) res h

-- ---- by the model that the body names
pub own_place : (s : State) (model : Identifier) (i : Interface) → interface_of s model ≡ Some i → interface_of s i.id ≡ Some i
own_place s model i live = in_found (λ (j : Interface). j.id) dtmi_text (dtmi_text model) (set_of s) i live

module _ (s : State) (id : List ℕ) (model : Identifier) (v : Json) where
  abbrev pub IsJudgedBody : Option Interface → Result NewTwin BodyFailure → Type 0
  IsJudgedBody o res = MatchResult res (λ (new : NewTwin). Unrefused (RefusesBody s id (dtmi_text model) v o) × (with_twin (twin_view new.twin) s ≡ with_body s id o v)) (FailsBy (RefusesBody s id (dtmi_text model) v o))

  module _ (i : Interface) (live : interface_of s model ≡ Some i) where
    pub at_model : (res : Result NewTwin BodyFailure) → IsJudgedOf s id i v res → IsJudgedBody (interface_of s model) res
    at_model res h =
        let text : dtmi_text model ≡ dtmi_text i.id = at-spelling (λ (j : Interface). j.id) dtmi_text (dtmi_text model) (set_of s) i live in
        subst (λ (o : Option Interface). IsJudgedBody o res) (sym live)
        (subst (λ (m : List ℕ). MatchResult res (λ (new : NewTwin). Unrefused (RefusesBody s id m v (Some i)) × (with_twin (twin_view new.twin) s ≡ with_body s id (Some i) v)) (FailsBy (RefusesBody s id m v (Some i)))) (sym text)
        (judged_as (λ (new : NewTwin). Unrefused (RefusesBody s id (dtmi_text i.id) v (Some i)) × (twin_view new.twin ≡ twin_for s id i v)) (λ (new : NewTwin). Unrefused (RefusesBody s id (dtmi_text i.id) v (Some i)) × (with_twin (twin_view new.twin) s ≡ with_body s id (Some i) v))
        (RefusesBody s id (dtmi_text i.id) v (Some i)) (RefusesBody s id (dtmi_text i.id) v (Some i)) (λ new k. (k.0, ap (λ (t : Twin). with_twin t s) k.1)) (λ r k. k) res h))
