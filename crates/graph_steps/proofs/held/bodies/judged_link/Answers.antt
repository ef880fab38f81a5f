use Rattle.std.proofs.Common.{◌≡◌, ℕ, List, subst}
use Rattle.std.specs.Prelude.{MatchResult}
use Rattle.json_tree.specs.View.{view}
use Rattle.graph_steps.specs.bodies.Bodies.{FailsBy}
use Rattle.graph_steps.specs.bodies.Kept.{link_view}
use Rattle.graph_steps.specs.Inherited.{inherited}
use Rattle.graph_steps.specs.LinkAsks.{link_for}
use Rattle.graph_steps.specs.States.{set_of}
use Rattle.graph_steps.specs.TwinAsks.{BodyFault}
use Rattle.twin_value.specs.Breaches.{HasNoBreach, IsLinkBreach}
use Rattle.graph_steps.specs.held.Held.{state_of}
use Rattle.graph_steps.proofs.held.Viewed.{model_in}
use Rattle.graph_steps.proofs.held.bodies.judged_link.Goals as goal

pub returns-clause-link : goal.returns-clause-link
returns-clause-link c =
    subst (λ (x : List ℕ). MatchResult c.link_from_body.result (λ l. HasNoBreach (IsLinkBreach (inherited (set_of (state_of c.args.lent.now)) c.args.interface.now) (view c.args.tree.now)) × (link_view l ≡ link_for (state_of c.args.lent.now) c.args.interface.now c.args.source.now c.args.id.now c.args.name.now x (view c.args.tree.now))) (FailsBy (BodyFault (IsLinkBreach (inherited (set_of (state_of c.args.lent.now)) c.args.interface.now) (view c.args.tree.now)) (view c.args.tree.now)))) c.as_str-4.ensures
    (subst (λ (x : List ℕ). MatchResult c.link_from_body.result (λ l. HasNoBreach (IsLinkBreach (inherited (set_of (state_of c.args.lent.now)) c.args.interface.now) (view c.args.tree.now)) × (link_view l ≡ link_for (state_of c.args.lent.now) c.args.interface.now c.args.source.now c.args.id.now x c.as_str-4.result.now (view c.args.tree.now))) (FailsBy (BodyFault (IsLinkBreach (inherited (set_of (state_of c.args.lent.now)) c.args.interface.now) (view c.args.tree.now)) (view c.args.tree.now)))) c.as_str-3.ensures
    (subst (λ (x : List ℕ). MatchResult c.link_from_body.result (λ l. HasNoBreach (IsLinkBreach (inherited (set_of (state_of c.args.lent.now)) c.args.interface.now) (view c.args.tree.now)) × (link_view l ≡ link_for (state_of c.args.lent.now) c.args.interface.now c.args.source.now x c.as_str-3.result.now c.as_str-4.result.now (view c.args.tree.now))) (FailsBy (BodyFault (IsLinkBreach (inherited (set_of (state_of c.args.lent.now)) c.args.interface.now) (view c.args.tree.now)) (view c.args.tree.now)))) c.as_str-2.ensures
    (subst (λ (x : List ℕ). MatchResult c.link_from_body.result (λ l. HasNoBreach (IsLinkBreach (inherited (set_of (state_of c.args.lent.now)) c.args.interface.now) (view c.args.tree.now)) × (link_view l ≡ link_for (state_of c.args.lent.now) c.args.interface.now x c.as_str-2.result.now c.as_str-3.result.now c.as_str-4.result.now (view c.args.tree.now))) (FailsBy (BodyFault (IsLinkBreach (inherited (set_of (state_of c.args.lent.now)) c.args.interface.now) (view c.args.tree.now)) (view c.args.tree.now)))) c.as_str.ensures
    (c.link_from_body.ensures.link (state_of c.args.lent.now) c.args.interface.now (model_in (state_of c.args.lent.now) c.ready.new.resolutions c.args.interface.now c.held_of-resolved.result.now c.ready.ensures.rules c.requires.there c.ready.ensures.right c.held_of-resolved.ensures)))))
