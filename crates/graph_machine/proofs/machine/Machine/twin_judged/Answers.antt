use Rattle.std.proofs.Common.{◌∙◌, IfOk, refl, sym, subst}
use Rattle.std.specs.Prelude.{MatchResult}
use Rattle.graph_asks.specs.declared.ask.Ask.TheVariants as asks
use Rattle.graph_steps.specs.bodies.Bodies.{FailsBy}
use Rattle.graph_steps.specs.bodies.Kept.{twin_view}
use Rattle.graph_steps.specs.States.{set_of, with_twin}
use Rattle.graph_steps.specs.Steps.{Refuses}
use Rattle.graph_steps.specs.Typed.{WellTyped}
use Rattle.model_life.specs.resolution.Resolving.{HoldsRight}
use Rattle.graph_steps.specs.held.Held.{Holding, holding, state_of}
use Rattle.graph_machine.specs.Machinery.Brought.{BringsTwin}
use Rattle.graph_machine.proofs.Brought.{twin_brought, only_ok, put_typed}
use Rattle.graph_machine.proofs.Kept.{same_kept}
use Rattle.graph_machine.proofs.machine.Machine.twin_judged.Goals as goal

pub judged_put-requires : goal.judged_put-requires
judged_put-requires c = record { typed = subst (λ (h : Holding). WellTyped (state_of h)) (sym c.new-lent.ensures) c.self.invariant.typed; right = subst (λ (h : Holding). HoldsRight (set_of (state_of h)) c.self.inside.resolutions) (sym c.new-lent.ensures) c.self.invariant.right; sound = c.requires }

pub invariant_of-self : goal.invariant_of-self
invariant_of-self c =
    same_kept (holding c.self.inside.models c.self.inside.twins c.self.inside.links) c.self.inside.resolutions c.self.inside.link_bytes c.self.invariant c.self.inside.models refl c.judged_put.new.resolutions
    (subst (λ (h : Holding). HoldsRight (set_of (state_of h)) c.judged_put.new.resolutions) c.new-lent.ensures c.judged_put.ensures.right)

pub returns-clause-judged : goal.returns-clause-judged
returns-clause-judged c =
    subst (λ (h : Holding). MatchResult c.judged_put.result (λ n. BringsTwin (state_of h) (asks.PutTwin c.args.id.now c.args.model.now c.args.body.now) c.args.id.now n.twin n.bytes) (FailsBy (Refuses (state_of h) (asks.PutTwin c.args.id.now c.args.model.now c.args.body.now)))) (c.new-lent.ensures ∙ c.self.view_is)
    (twin_brought (λ n. n.twin) (λ n. n.bytes) (state_of c.new-lent.result) (asks.PutTwin c.args.id.now c.args.model.now c.args.body.now) c.args.id.now c.judged_put.result c.judged_put.ensures.judged c.judged_put.ensures.id c.judged_put.ensures.held)

pub returns-clause-typed : goal.returns-clause-typed
returns-clause-typed c =
    subst (λ (h : Holding). IfOk c.judged_put.result (λ n. WellTyped (with_twin (twin_view n.twin) (state_of h)))) (c.new-lent.ensures ∙ c.self.view_is)
    (only_ok c.judged_put.result _ _ _ (λ n b. put_typed (state_of c.new-lent.result) c.args.id.now n.twin n.bytes c.args.model.now c.args.body.now (subst (λ (h : Holding). WellTyped (state_of h)) (sym c.new-lent.ensures) c.self.invariant.typed) c.requires b)
    (twin_brought (λ n. n.twin) (λ n. n.bytes) (state_of c.new-lent.result) (asks.PutTwin c.args.id.now c.args.model.now c.args.body.now) c.args.id.now c.judged_put.result c.judged_put.ensures.judged c.judged_put.ensures.id c.judged_put.ensures.held))
