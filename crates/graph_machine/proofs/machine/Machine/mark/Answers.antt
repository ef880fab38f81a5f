use Rattle.std.proofs.Common.{◌≡◌, ◌∙◌, sym, ap, subst, refl}
use Rattle.graph_asks.specs.Answers.{done}
use Rattle.graph_asks.specs.declared.ask.Ask.TheVariants as asks
use Rattle.model_life.specs.Models.{model_at}
use Rattle.graph_steps.specs.ModelAsks.{after_mark}
use Rattle.graph_steps.specs.Steps.{Allows, Answers, follows}
use Rattle.graph_steps.specs.held.Held.{holding, state_of, HoldsTogether}
use Rattle.graph_machine.proofs.Answered.{marked, unmarked, mark_there, not_found}
use Rattle.graph_machine.proofs.Kept.{mark_kept}
use Rattle.graph_machine.proofs.Told.{told, after_err}
use Rattle.graph_machine.proofs.machine.Machine.mark.Goals as goal
use Rattle.graph_machine.proofs.machine.Machine.mark.Goals.{in-Ok, in-Err-ModelNotFound}

pub invariant_of-self : goal.invariant_of-self
invariant_of-self c =
    let h = holding c.self.inside.models c.self.inside.twins c.self.inside.links in
    elim c.match-mark.branch [
      | in-Ok w ↦ subst (λ ms. HoldsTogether (holding ms h.twins h.links) c.self.inside.resolutions c.self.inside.link_bytes) (sym w.in-Ok.ensures.ok)
          (mark_kept h c.self.inside.resolutions c.self.inside.link_bytes c.self.invariant c.args.id.now c.args.on)
      | in-Err-ModelNotFound w ↦ subst (λ ms. HoldsTogether (holding ms h.twins h.links) c.self.inside.resolutions c.self.inside.link_bytes) (sym w.in-Err-ModelNotFound.ensures.err) c.self.invariant
    ]

pub returns-clause-allowed : goal.returns-clause-allowed
returns-clause-allowed c =
    let h = holding c.self.inside.models c.self.inside.twins c.self.inside.links in
    elim c.match-mark.branch [
      | in-Ok w ↦ rw w.result-is
          (subst (λ g. Answers (state_of g) (asks.Mark c.args.id.now c.args.on) done) c.self.view_is (marked (state_of h) c.args.id.now c.args.on w.in-Ok.ensures.end))
      | in-Err-ModelNotFound w ↦ rw w.result-is
          (told w.model_not_found.result _ (Allows (state_of c.args.self.now) (asks.Mark c.args.id.now c.args.on)) w.model_not_found.ensures
          (unmarked (state_of c.args.self.now) c.args.id.now c.args.on (ap (λ g. model_at c.args.id.now g.models) (sym c.self.view_is) ∙ not_found c.self.inside.models c.args.id.now _ w.in-Err-ModelNotFound.ensures.end)))
    ]

pub returns-clause-follows : goal.returns-clause-follows
returns-clause-follows c =
    let h = holding c.self.inside.models c.self.inside.twins c.self.inside.links in
    elim c.match-mark.branch [
      | in-Ok w ↦ rw w.result-is (ap (λ ms. state_of (holding ms h.twins h.links)) w.in-Ok.ensures.ok ∙ ap (λ g. after_mark (state_of g) c.args.id.now c.args.on) c.self.view_is)
      | in-Err-ModelNotFound w ↦ rw w.result-is
          (told w.model_not_found.result _ (λ reply. state_of (holding c.mark.new.self h.twins h.links) ≡ follows (state_of c.args.self.now) (asks.Mark c.args.id.now c.args.on) reply) w.model_not_found.ensures
          (ap (λ ms. state_of (holding ms h.twins h.links)) w.in-Err-ModelNotFound.ensures.err ∙ ap state_of c.self.view_is))
    ]

pub returns-clause-unchanged : goal.returns-clause-unchanged
returns-clause-unchanged c =
    let h = holding c.self.inside.models c.self.inside.twins c.self.inside.links in
    elim c.match-mark.branch [
      | in-Ok w ↦ rw w.result-is tt
      | in-Err-ModelNotFound w ↦ rw w.result-is (after_err w.model_not_found.result _ (ap (λ ms. holding ms h.twins h.links) w.in-Err-ModelNotFound.ensures.err ∙ c.self.view_is))
    ]

pub returns-clause-free : goal.returns-clause-free
returns-clause-free c = λ told_done.
    elim c.match-mark.branch [
      | in-Ok w ↦ rw w.result-is refl
      | in-Err-ModelNotFound w ↦ absurd (mark_there (state_of c.args.self.now) c.args.id.now c.args.on told_done
          (ap (λ g. model_at c.args.id.now g.models) (sym c.self.view_is) ∙ not_found c.self.inside.models c.args.id.now _ w.in-Err-ModelNotFound.ensures.end))
    ]
