use Rattle.std.proofs.Common.{◌≡◌, ℕ, List, subst}
use Rattle.std.specs.Prelude.{MatchResult}
use Rattle.json_tree.specs.View.{view}
use Rattle.graph_steps.specs.bodies.Bodies.{FailsBy}
use Rattle.graph_steps.specs.TwinAsks.{BodyFault, part_role_in}
use Rattle.twin_patch.specs.Objects.{sorted_value}
use Rattle.twin_value.specs.Breaches.{HasNoBreach, IsBodyBreach}
use Rattle.twin_value.specs.Twins.{without_metadata}
use Rattle.graph_steps.specs.held.Held.{state_of}
use Rattle.graph_steps.proofs.held.Viewed.{model_in}
use Rattle.graph_steps.proofs.held.bodies.judged_part.Goals as goal

pub returns-clause-part : goal.returns-clause-part
returns-clause-part c =
    subst (λ (name : List ℕ). MatchResult c.part_from_body.result (λ values. HasNoBreach (IsBodyBreach (part_role_in (state_of c.args.lent.now) c.args.interface.now name) (view c.args.tree.now)) × (view values ≡ sorted_value (without_metadata (view c.args.tree.now)))) (FailsBy (BodyFault (IsBodyBreach (part_role_in (state_of c.args.lent.now) c.args.interface.now name) (view c.args.tree.now)) (view c.args.tree.now)))) c.as_str.ensures
    (c.part_from_body.ensures.part (state_of c.args.lent.now) c.args.interface.now (model_in (state_of c.args.lent.now) c.ready.new.resolutions c.args.interface.now c.held_of-resolved.result.now c.ready.ensures.rules c.requires.there c.ready.ensures.right c.held_of-resolved.ensures))
