use Rattle.std.proofs.Common.{◌∙◌, sym, ap, subst}
use Rattle.graph_asks.specs.declared.ask.Ask.TheVariants as asks
use Rattle.graph_steps.specs.bodies.Kept.{twin_view}
use Rattle.graph_steps.specs.States.{with_twin}
use Rattle.graph_steps.specs.Typed.{WellTyped}
use Rattle.graph_steps.specs.held.Held.{Holding, state_of}
use Rattle.graph_machine.proofs.Brought.{twin_put, failed_allows, failed_follows}
use Rattle.graph_machine.proofs.machine.Machine.put_twin.Goals as goal

pub twin_tree-requires : goal.twin_tree-requires
twin_tree-requires c = c.in-Ok.ensures.judged.held.kept

pub enter_twin-requires-clause-typed : goal.enter_twin-requires-clause-typed
enter_twin-requires-clause-typed c = subst (λ (h : Holding). WellTyped (with_twin (twin_view c.in-Ok.new.twin) (state_of h))) (sym c.twin_judged.ensures.same) c.in-Ok.ensures.typed

pub enter_twin-requires-clause-held : goal.enter_twin-requires-clause-held
enter_twin-requires-clause-held c = c.in-Ok.ensures.judged.held

pub returns-in_ok-enter_twin-in-Ok-clause-allowed : goal.returns-in_ok-enter_twin-in-Ok-clause-allowed
returns-in_ok-enter_twin-in-Ok-clause-allowed c = twin_put (state_of c.args.self.now) c.args.id.now c.in-Ok.new.twin c.in-Ok.new.bytes c.args.model.now c.args.body.now c.in_ok-tree-in-Ok.tree c.in_ok-tree-in-Ok.ensures c.in-Ok.ensures.judged

pub returns-in_ok-enter_twin-in-Ok-clause-follows : goal.returns-in_ok-enter_twin-in-Ok-clause-follows
returns-in_ok-enter_twin-in-Ok-clause-follows c = c.in_ok-enter_twin-in-Ok.ensures.ok ∙ ap (λ (h : Holding). with_twin (twin_view c.in-Ok.new.twin) (state_of h)) c.twin_judged.ensures.same ∙ c.in-Ok.ensures.judged.put

pub returns-in-Err-clause-allowed : goal.returns-in-Err-clause-allowed
returns-in-Err-clause-allowed c = failed_allows (state_of c.args.self.now) (asks.PutTwin c.args.id.now c.args.model.now c.args.body.now) c.in-Err.failure c.in-Err.ensures.judged c.failed.result c.failed.ensures

pub returns-in-Err-clause-follows : goal.returns-in-Err-clause-follows
returns-in-Err-clause-follows c = failed_follows (state_of c.args.self.now) (asks.PutTwin c.args.id.now c.args.model.now c.args.body.now) c.in-Err.failure c.in-Err.ensures.judged _ (ap state_of c.twin_judged.ensures.same) c.failed.result c.failed.ensures
