use Rattle.std.proofs.Common.{◌≡◌, [], ◌∷◌, ◌∙◌, sym, ap, subst, refl, IfOk, IsSome}
use Rattle.graph_asks.specs.Answers.{done}
use Rattle.graph_asks.specs.declared.ask.Ask.TheVariants as asks
use Rattle.model_life.specs.Models.{model_at, first_user, without_models}
use Rattle.graph_steps.specs.ModelAsks.{after_drop}
use Rattle.graph_steps.specs.Steps.{Allows, Answers, follows}
use Rattle.graph_steps.specs.held.Held.{holding, state_of, HoldsTogether}
use Rattle.graph_machine.proofs.Answered.{dropped, drop_free, no_model, drop_there, drop_unused}
use Rattle.graph_machine.proofs.Kept.{drop_kept}
use Rattle.graph_machine.proofs.Told.{told, weaker, after_err}
use Rattle.graph_machine.proofs.machine.Machine.drop_model.Goals as goal

pub invariant_of-self : goal.invariant_of-self
invariant_of-self c =
    let h = holding c.self.inside.models c.self.inside.twins c.self.inside.links in
    subst (λ ms. HoldsTogether (holding ms h.twins h.links) c.clear.new.self c.self.inside.link_bytes) (sym c.in-Ok.ensures.ok)
    (subst (λ rs. HoldsTogether (holding (without_models (c.args.id.now ∷ []) h.models) h.twins h.links) rs c.self.inside.link_bytes) (sym c.clear.ensures)
    (drop_kept h c.self.inside.resolutions c.self.inside.link_bytes c.self.invariant c.args.id.now (drop_free (state_of h) c.args.id.now c.in-Ok.ensures.end.0 c.in-Ok.ensures.end.1)))

pub invariant_of-self-in-Err-ModelNotFound : goal.invariant_of-self-in-Err-ModelNotFound
invariant_of-self-in-Err-ModelNotFound c =
    subst (λ ms. HoldsTogether (holding ms c.self.inside.twins c.self.inside.links) c.self.inside.resolutions c.self.inside.link_bytes) (sym c.in-Err-ModelNotFound.ensures.err) c.self.invariant

pub invariant_of-self-in-Err-ModelInUse : goal.invariant_of-self-in-Err-ModelInUse
invariant_of-self-in-Err-ModelInUse c =
    subst (λ ms. HoldsTogether (holding ms c.self.inside.twins c.self.inside.links) c.self.inside.resolutions c.self.inside.link_bytes) (sym c.in-Err-ModelInUse.ensures.err) c.self.invariant

pub model_in_use-requires-clause-there : goal.model_in_use-requires-clause-there
model_in_use-requires-clause-there c =
    let end = rw c.in-Err-ModelInUse.field-0-is at c.in-Err-ModelInUse.ensures.end in
    subst (λ ms. IsSome (model_at c.args.id.now ms)) (sym c.in-Err-ModelInUse.ensures.err) end.0

pub model_in_use-requires-clause-used : goal.model_in_use-requires-clause-used
model_in_use-requires-clause-used c =
    let end = rw c.in-Err-ModelInUse.field-0-is at c.in-Err-ModelInUse.ensures.end in
    subst (λ ms. IsSome (first_user c.args.id.now ms)) (sym c.in-Err-ModelInUse.ensures.err) end.1

pub returns-in-Ok-clause-allowed : goal.returns-in-Ok-clause-allowed
returns-in-Ok-clause-allowed c =
    let h = holding c.self.inside.models c.self.inside.twins c.self.inside.links in
    subst (λ g. Answers (state_of g) (asks.DropModel c.args.id.now) done) c.self.view_is (dropped (state_of h) c.args.id.now c.in-Ok.ensures.end.0 c.in-Ok.ensures.end.1)

pub returns-in-Ok-clause-follows : goal.returns-in-Ok-clause-follows
returns-in-Ok-clause-follows c =
    ap (λ ms. state_of (holding ms c.self.inside.twins c.self.inside.links)) c.in-Ok.ensures.ok ∙ ap (λ g. after_drop (state_of g) c.args.id.now) c.self.view_is

pub returns-in-Ok-clause-free : goal.returns-in-Ok-clause-free
returns-in-Ok-clause-free c = λ told_done. refl

pub returns-in-Err-ModelNotFound-clause-allowed : goal.returns-in-Err-ModelNotFound-clause-allowed
returns-in-Err-ModelNotFound-clause-allowed c =
    told c.model_not_found.result _ (Allows (state_of c.args.self.now) (asks.DropModel c.args.id.now)) c.model_not_found.ensures
    (no_model (state_of c.args.self.now) c.args.id.now (ap (λ g. model_at c.args.id.now g.models) (sym c.self.view_is) ∙ rw c.in-Err-ModelNotFound.field-0-is at c.in-Err-ModelNotFound.ensures.end))

pub returns-in-Err-ModelNotFound-clause-follows : goal.returns-in-Err-ModelNotFound-clause-follows
returns-in-Err-ModelNotFound-clause-follows c =
    told c.model_not_found.result _ (λ reply. state_of (holding c.drop_model.new.self c.self.inside.twins c.self.inside.links) ≡ follows (state_of c.args.self.now) (asks.DropModel c.args.id.now) reply) c.model_not_found.ensures
    (ap (λ ms. state_of (holding ms c.self.inside.twins c.self.inside.links)) c.in-Err-ModelNotFound.ensures.err ∙ ap state_of c.self.view_is)

pub returns-in-Err-ModelNotFound-clause-unchanged : goal.returns-in-Err-ModelNotFound-clause-unchanged
returns-in-Err-ModelNotFound-clause-unchanged c =
    after_err c.model_not_found.result _ (ap (λ ms. holding ms c.self.inside.twins c.self.inside.links) c.in-Err-ModelNotFound.ensures.err ∙ c.self.view_is)

pub returns-in-Err-ModelNotFound-clause-free : goal.returns-in-Err-ModelNotFound-clause-free
returns-in-Err-ModelNotFound-clause-free c = λ told_done. absurd (drop_there (state_of c.args.self.now) c.args.id.now told_done
    (ap (λ g. model_at c.args.id.now g.models) (sym c.self.view_is) ∙ rw c.in-Err-ModelNotFound.field-0-is at c.in-Err-ModelNotFound.ensures.end))

pub returns-in-Err-ModelInUse-clause-allowed : goal.returns-in-Err-ModelInUse-clause-allowed
returns-in-Err-ModelInUse-clause-allowed c =
    subst (λ g. IfOk c.model_in_use.result (Allows (state_of g) (asks.DropModel c.args.id.now)))
    (ap (λ ms. holding ms c.self.inside.twins c.self.inside.links) c.in-Err-ModelInUse.ensures.err ∙ c.self.view_is) c.model_in_use.ensures.allowed

pub returns-in-Err-ModelInUse-clause-follows : goal.returns-in-Err-ModelInUse-clause-follows
returns-in-Err-ModelInUse-clause-follows c =
    let g0 = holding c.drop_model.new.self c.self.inside.twins c.self.inside.links in
    subst (λ g. IfOk c.model_in_use.result (λ reply. state_of g0 ≡ follows (state_of g) (asks.DropModel c.args.id.now) reply))
    (ap (λ ms. holding ms c.self.inside.twins c.self.inside.links) c.in-Err-ModelInUse.ensures.err ∙ c.self.view_is)
    (weaker c.model_in_use.result _ _ (λ reply h. sym h) c.model_in_use.ensures.follows)

pub returns-in-Err-ModelInUse-clause-unchanged : goal.returns-in-Err-ModelInUse-clause-unchanged
returns-in-Err-ModelInUse-clause-unchanged c =
    after_err c.model_in_use.result _ (ap (λ ms. holding ms c.self.inside.twins c.self.inside.links) c.in-Err-ModelInUse.ensures.err ∙ c.self.view_is)

pub returns-in-Err-ModelInUse-clause-free : goal.returns-in-Err-ModelInUse-clause-free
returns-in-Err-ModelInUse-clause-free c = λ told_done.
    let end = rw c.in-Err-ModelInUse.field-0-is at c.in-Err-ModelInUse.ensures.end in
    absurd (drop_unused (state_of c.args.self.now) c.args.id.now told_done (subst (λ g. IsSome (model_at c.args.id.now g.models)) c.self.view_is end.0) (subst (λ g. IsSome (first_user c.args.id.now g.models)) c.self.view_is end.1))
