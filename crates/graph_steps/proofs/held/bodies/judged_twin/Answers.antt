use Rattle.std.proofs.Common.{◌≡◌, ℕ, List, subst}
use Rattle.std.specs.Prelude.{MatchResult}
use Rattle.json_tree.specs.View.{view}
use Rattle.graph_steps.specs.bodies.Bodies.{FailsBy}
use Rattle.graph_steps.specs.bodies.Kept.{twin_view}
use Rattle.graph_steps.specs.Inherited.{inherited}
use Rattle.graph_steps.specs.States.{set_of}
use Rattle.graph_steps.specs.TwinAsks.{BodyFault, twin_for}
use Rattle.twin_value.specs.Breaches.{HasNoBreach, IsTwinBreach}
use Rattle.graph_steps.specs.held.Held.{state_of}
use Rattle.graph_steps.proofs.held.Viewed.{model_in}
use Rattle.graph_steps.proofs.held.bodies.judged_twin.Goals as goal

pub returns-clause-twin : goal.returns-clause-twin
returns-clause-twin c =
    subst (λ (id : List ℕ). MatchResult c.twin_from_body.result (λ t. HasNoBreach (IsTwinBreach (inherited (set_of (state_of c.args.lent.now)) c.args.interface.now) (view c.args.tree.now)) × (twin_view t ≡ twin_for (state_of c.args.lent.now) id c.args.interface.now (view c.args.tree.now))) (FailsBy (BodyFault (IsTwinBreach (inherited (set_of (state_of c.args.lent.now)) c.args.interface.now) (view c.args.tree.now)) (view c.args.tree.now)))) c.as_str.ensures
    (c.twin_from_body.ensures.twin (state_of c.args.lent.now) (model_in (state_of c.args.lent.now) c.ready.new.resolutions c.args.interface.now c.held_of-resolved.result.now c.ready.ensures.rules c.requires.there c.ready.ensures.right c.held_of-resolved.ensures))
