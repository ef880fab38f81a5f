use Rattle.std.proofs.Common.{◌≡◌, ◌∙◌, ℕ, List, map, Option, refl, sym, ap, subst}
use Rattle.dt_base.specs.names.Grammar.{Identifier, dtmi_text}
use Rattle.dtdl_terms.specs.Distinct.{AreDistinct}
use Rattle.graph_judges.specs.fits.Ill.{IsLeastMisfit}
use Rattle.graph_steps.specs.ModelAsks.{after_uploads}
use Rattle.graph_steps.specs.held.Held.{Holding, holding, state_of}
use Rattle.graph_steps.specs.States.{set_of}
use Rattle.model_life.specs.Models.{Model, interfaces_of, without_models}
use Rattle.model_life.specs.resolution.Resolving.{HoldsRight}
use Rattle.model_life.specs.sets.Changing.{AreFree}
use Rattle.graph_machine.proofs.Answered.{misfit, uploads_free}
use Rattle.graph_machine.proofs.Taken.{upload_id, taken_distinct, taken_within, taken_whole, taken_free, taken_back}
use Rattle.graph_machine.proofs.growing.models_come.Goals as goal

pub returns-in-Err-clause-judged : goal.returns-in-Err-clause-judged
returns-in-Err-clause-judged c = c.in-Err.ensures.judged (state_of (holding c.args.models.now c.args.twins.now c.args.links.now)) refl

pub least_misfit-requires : goal.least_misfit-requires
least_misfit-requires c =
    let end = c.in-Ok.ensures.judged (state_of (holding c.args.models.now c.args.twins.now c.args.links.now)) refl in
    record {
      right = subst (λ (h : Holding). HoldsRight (set_of (state_of h)) c.args.resolutions.now) (sym c.new-lent.ensures)
          (subst (λ (ms : List Model). HoldsRight (interfaces_of ms) c.args.resolutions.now) (sym c.in-Ok.ensures.ok)
          (c.held_stay_right.ensures _ _ c.args.resolutions.now
          (taken_within c.args.new.now c.args.models.now c.requires.kept.typed.models.rules c.requires.kept.typed.models.ordered end.0 end.1)
          (taken_whole c.args.new.now c.args.models.now c.requires.kept.typed.models.rules c.requires.kept.typed.models.ordered end.0 end.1)
          c.requires.kept.right));
    }

pub returns-in-Ok-None-clause-judged : goal.returns-in-Ok-None-clause-judged
returns-in-Ok-None-clause-judged c =
    let end = c.in-Ok.ensures.judged (state_of (holding c.args.models.now c.args.twins.now c.args.links.now)) refl in
    let came : after_uploads (state_of (holding c.args.models.now c.args.twins.now c.args.links.now)) c.args.new.now ≡ state_of c.new-lent.result = ap (λ (ms : List Model). state_of (holding ms c.args.twins.now c.args.links.now)) (sym c.in-Ok.ensures.ok) ∙ ap state_of (sym c.new-lent.ensures) in
    uploads_free (state_of (holding c.args.models.now c.args.twins.now c.args.links.now)) c.args.new.now c.one_sum.ensures end.0 end.1 end.2 (subst (λ (o : Option (List ℕ)). IsLeastMisfit (state_of (holding c.args.models.now c.args.twins.now c.args.links.now)) c.args.new.now o) c.in-Ok-None.field-0-is (c.in-Ok-None.ensures.least (state_of (holding c.args.models.now c.args.twins.now c.args.links.now)) came end.0))

pub returns-in-Ok-None-clause-new : goal.returns-in-Ok-None-clause-new
returns-in-Ok-None-clause-new c = (c.in-Ok.ensures.judged (state_of (holding c.args.models.now c.args.twins.now c.args.links.now)) refl).0

pub give_back-requires-clause-distinct : goal.give_back-requires-clause-distinct
give_back-requires-clause-distinct c =
    let end = c.in-Ok.ensures.judged (state_of (holding c.args.models.now c.args.twins.now c.args.links.now)) refl in
    subst (λ (ids : List Identifier). AreDistinct (map (λ id. dtmi_text id) ids)) (sym (c.as_slice.ensures.value ∙ c.in_ok-ids.ensures))
    (taken_distinct c.args.new.now c.args.models.now c.requires.kept.typed.models.rules c.requires.kept.typed.models.ordered end.0 end.1)

pub give_back-requires-clause-free : goal.give_back-requires-clause-free
give_back-requires-clause-free c =
    let end = c.in-Ok.ensures.judged (state_of (holding c.args.models.now c.args.twins.now c.args.links.now)) refl in
    subst (λ (ids : List Identifier). AreFree (interfaces_of c.add.new.models) ids) (sym (c.as_slice.ensures.value ∙ c.in_ok-ids.ensures))
    (subst (λ (ms : List Model). AreFree (interfaces_of ms) (map upload_id c.args.new.now)) (sym c.in-Ok.ensures.ok)
    (taken_free c.args.new.now c.args.models.now c.requires.kept.typed.models.rules c.requires.kept.typed.models.ordered end.0 end.1))

pub returns-in-Ok-Some-clause-judged : goal.returns-in-Ok-Some-clause-judged
returns-in-Ok-Some-clause-judged c =
    let end = c.in-Ok.ensures.judged (state_of (holding c.args.models.now c.args.twins.now c.args.links.now)) refl in
    let came : after_uploads (state_of (holding c.args.models.now c.args.twins.now c.args.links.now)) c.args.new.now ≡ state_of c.new-lent.result = ap (λ (ms : List Model). state_of (holding ms c.args.twins.now c.args.links.now)) (sym c.in-Ok.ensures.ok) ∙ ap state_of (sym c.new-lent.ensures) in
    misfit (state_of (holding c.args.models.now c.args.twins.now c.args.links.now)) c.args.new.now c.one_sum.ensures end.0 end.1 end.2 _ (subst (λ (o : Option (List ℕ)). IsLeastMisfit (state_of (holding c.args.models.now c.args.twins.now c.args.links.now)) c.args.new.now o) c.in-Ok-Some.field-0-is (c.in-Ok-Some.ensures.least (state_of (holding c.args.models.now c.args.twins.now c.args.links.now)) came end.0))

pub returns-in-Ok-Some-clause-err : goal.returns-in-Ok-Some-clause-err
returns-in-Ok-Some-clause-err c =
    let end = c.in-Ok.ensures.judged (state_of (holding c.args.models.now c.args.twins.now c.args.links.now)) refl in
    c.give_back.ensures.models
    ∙ ap (λ (ids : List Identifier). without_models ids c.add.new.models) (c.as_slice.ensures.value ∙ c.in_ok-ids.ensures)
    ∙ ap (λ (ms : List Model). without_models (map upload_id c.args.new.now) ms) c.in-Ok.ensures.ok
    ∙ taken_back c.args.new.now c.args.models.now c.requires.kept.typed.models.rules c.requires.kept.typed.models.ordered end.0 end.1

pub give_back-requires-in-Err-least_misfit-clause-distinct : goal.give_back-requires-in-Err-least_misfit-clause-distinct
give_back-requires-in-Err-least_misfit-clause-distinct c =
    let end = c.in-Ok.ensures.judged (state_of (holding c.args.models.now c.args.twins.now c.args.links.now)) refl in
    subst (λ (ids : List Identifier). AreDistinct (map (λ id. dtmi_text id) ids)) (sym (c.as_slice-in-Err-least_misfit.ensures.value ∙ c.in_ok-ids.ensures))
    (taken_distinct c.args.new.now c.args.models.now c.requires.kept.typed.models.rules c.requires.kept.typed.models.ordered end.0 end.1)

pub give_back-requires-in-Err-least_misfit-clause-free : goal.give_back-requires-in-Err-least_misfit-clause-free
give_back-requires-in-Err-least_misfit-clause-free c =
    let end = c.in-Ok.ensures.judged (state_of (holding c.args.models.now c.args.twins.now c.args.links.now)) refl in
    subst (λ (ids : List Identifier). AreFree (interfaces_of c.add.new.models) ids) (sym (c.as_slice-in-Err-least_misfit.ensures.value ∙ c.in_ok-ids.ensures))
    (subst (λ (ms : List Model). AreFree (interfaces_of ms) (map upload_id c.args.new.now)) (sym c.in-Ok.ensures.ok)
    (taken_free c.args.new.now c.args.models.now c.requires.kept.typed.models.rules c.requires.kept.typed.models.ordered end.0 end.1))

pub returns-clause-err : goal.returns-clause-err
returns-clause-err c =
    let end = c.in-Ok.ensures.judged (state_of (holding c.args.models.now c.args.twins.now c.args.links.now)) refl in
    c.give_back-in-Err-least_misfit.ensures.models
    ∙ ap (λ (ids : List Identifier). without_models ids c.add.new.models) (c.as_slice-in-Err-least_misfit.ensures.value ∙ c.in_ok-ids.ensures)
    ∙ ap (λ (ms : List Model). without_models (map upload_id c.args.new.now) ms) c.in-Ok.ensures.ok
    ∙ taken_back c.args.new.now c.args.models.now c.requires.kept.typed.models.rules c.requires.kept.typed.models.ordered end.0 end.1
