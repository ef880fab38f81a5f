use Rattle.std.proofs.Common.{◌≡◌, IfOk, OnOk, OnErr, subst}
use Rattle.std.specs.Prelude.{MatchResult}
use Rattle.dtdl_terms.specs.Sets.{InOrder}
use Rattle.graph_asks.specs.declared.ask.Ask.TheVariants as asks
use Rattle.graph_asks.specs.declared.refusal.Refusal.{Refusal}
use Rattle.graph_steps.specs.bodies.Bodies.{FailsBy}
use Rattle.model_life.specs.Refusals.{AreNew}
use Rattle.graph_steps.specs.States.{set_of}
use Rattle.graph_steps.specs.Steps.{Refuses, changed}
use Rattle.graph_steps.specs.held.Held.{Holding, holding, state_of}
use Rattle.graph_machine.proofs.Came.{came_kept, came_changed, came_same}
use Rattle.graph_machine.proofs.machine.Machine.models_in.Goals as goal

pub models_come-requires : goal.models_come-requires
models_come-requires c = record { sound = c.requires; kept = c.self.invariant }

pub invariant_of-self : goal.invariant_of-self
invariant_of-self c =
    came_kept (holding c.self.inside.models c.self.inside.twins c.self.inside.links) c.self.inside.resolutions c.self.inside.link_bytes c.self.invariant c.args.new.now c.requires.each c.models_come.result c.models_come.ensures.judged c.models_come.new.models c.models_come.ensures.ok c.models_come.ensures.err c.models_come.new.resolutions c.models_come.ensures.right

pub returns-clause-judged : goal.returns-clause-judged
returns-clause-judged c =
    subst (λ (h : Holding). MatchResult c.models_come.result (λ _. (r : Refusal) → Refuses (state_of h) (asks.PutModels c.args.new.now) r → ⊥) (FailsBy (Refuses (state_of h) (asks.PutModels c.args.new.now)))) c.self.view_is c.models_come.ensures.judged

pub returns-clause-new : goal.returns-clause-new
returns-clause-new c = subst (λ (h : Holding). IfOk c.models_come.result (λ _. AreNew (state_of h).models c.args.new.now)) c.self.view_is c.models_come.ensures.new

pub returns-clause-ordered : goal.returns-clause-ordered
returns-clause-ordered c = subst (λ (h : Holding). InOrder (set_of (state_of h))) c.self.view_is c.self.invariant.typed.models.ordered

pub returns-clause-ok : goal.returns-clause-ok
returns-clause-ok c =
    subst (λ (h : Holding). OnOk c.models_come.result (state_of (holding c.models_come.new.models c.self.inside.twins c.self.inside.links) ≡ changed (state_of h) (asks.PutModels c.args.new.now))) c.self.view_is
    (came_changed (holding c.self.inside.models c.self.inside.twins c.self.inside.links) c.args.new.now c.models_come.result c.models_come.new.models c.models_come.ensures.ok)

pub returns-clause-err : goal.returns-clause-err
returns-clause-err c =
    subst (λ (h : Holding). OnErr c.models_come.result (holding c.models_come.new.models c.self.inside.twins c.self.inside.links ≡ h)) c.self.view_is
    (came_same (holding c.self.inside.models c.self.inside.twins c.self.inside.links) c.models_come.result c.models_come.new.models c.models_come.ensures.err)
