use Rattle.std.proofs.Common.{◌≡◌, ◌∙◌, inl, refl, sym, ap}
use Rattle.std.specs.Option.{option_copied, option_map}
use Rattle.twin_value.specs.Breaches.{link_called}
use Rattle.graph_asks.specs.declared.refusal.Refusal.TheVariants as refusals
use Rattle.graph_steps.specs.Inherited.{contents}
use Rattle.graph_steps.specs.States.{set_of}
use Rattle.graph_steps.specs.TwinAsks.{TwinNotFound}
use Rattle.graph_steps.specs.bodies.Kept.{link_view, twin_view}
use Rattle.graph_steps.specs.held.Held.{link_of, state_of}
use Rattle.graph_judges.specs.links.Machinery.Refused.{RefusesEnds, RefusesDeclaredOrFull}
use Rattle.graph_judges.specs.declared.links.new_link.NewLink.{NewLink}
use Rattle.graph_judges.proofs.links.Glued.{refused_by, later}
use Rattle.graph_judges.proofs.links.Puts.{has_source}
use Rattle.graph_judges.proofs.links.putting.leading.Goals as goal

pub returns-in_default-clause-judged : goal.returns-in_default-clause-judged
returns-in_default-clause-judged c =
    let s = state_of c.args.lent.now in
    refused_by (refusals.TwinNotFound c.args.link.target) (RefusesEnds s c.args.interface.now (link_view c.args.link))
    (inl (sym c.twin.ensures.at ∙ ap (λ o. option_map twin_view (option_copied o)) c.in_default.is, refl)) c.no_twin-failure.result c.no_twin-failure.ensures

pub fitting-requires-clause-target : goal.fitting-requires-clause-target
fitting-requires-clause-target c = sym c.twin.ensures.at ∙ ap (λ o. option_map twin_view (option_copied o)) c.in-Some.is

pub returns-clause-judged : goal.returns-clause-judged
returns-clause-judged c =
    let s = state_of c.args.lent.now in
    later (TwinNotFound s c.args.link.target) (RefusesDeclaredOrFull s (link_called c.args.link.name (contents (set_of s) c.args.interface.now)) (link_view c.args.link)) (λ (new : NewLink). link_of new.edge ≡ link_view c.args.link) c.fitting.result
    (has_source s c.args.link.target (twin_view c.in-Some.twin.now) (sym c.twin.ensures.at ∙ ap (λ o. option_map twin_view (option_copied o)) c.in-Some.is)) c.fitting.ensures.judged
