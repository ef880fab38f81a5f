use Rattle.std.proofs.Common.{◌∙◌, sym, ap, subst}
use Rattle.rel_graph.specs.Edges.{without_edge}
use Rattle.graph_steps.specs.LinkAsks.{after_drop_rel}
use Rattle.graph_steps.specs.held.Held.{holding, state_of, HoldsTogether}
use Rattle.graph_machine.proofs.Kept.{no_link_kept, one_link_kept}
use Rattle.graph_steps.proofs.held.Viewed.{links_without}
use Rattle.graph_machine.proofs.machine.Machine.take_link.Goals as goal

pub invariant_of-self : goal.invariant_of-self
invariant_of-self c =
    subst (λ es. HoldsTogether (holding c.self.inside.models c.self.inside.twins es) c.self.inside.resolutions c.self.inside.link_bytes) (sym c.remove.ensures.edges)
    (no_link_kept (holding c.self.inside.models c.self.inside.twins c.self.inside.links) c.self.inside.resolutions c.self.inside.link_bytes c.self.invariant c.args.source.now c.args.id.now
    (sym c.in_default.is ∙ c.remove.ensures.value))

pub returns-in_default : goal.returns-in_default
returns-in_default c =
    ap (λ es. state_of (holding c.self.inside.models c.self.inside.twins es)) c.remove.ensures.edges
    ∙ links_without c.args.source.now c.args.id.now (holding c.self.inside.models c.self.inside.twins c.self.inside.links)
    ∙ ap (λ g. after_drop_rel (state_of g) c.args.source.now c.args.id.now) c.self.view_is

pub invariant_of-self-2 : goal.invariant_of-self-2
invariant_of-self-2 c =
    subst (λ es. HoldsTogether (holding c.self.inside.models c.self.inside.twins es) c.self.inside.resolutions c.saturating_sub-self-inside.result) (sym c.remove.ensures.edges)
    (subst (λ n. HoldsTogether (holding c.self.inside.models c.self.inside.twins (without_edge c.args.source.now c.args.id.now c.self.inside.links)) c.self.inside.resolutions n) (sym c.saturating_sub-self-inside.ensures)
    (one_link_kept (holding c.self.inside.models c.self.inside.twins c.self.inside.links) c.self.inside.resolutions c.self.inside.link_bytes c.self.invariant c.args.source.now c.args.id.now c.in-Some.edge
    (sym c.in-Some.is ∙ c.remove.ensures.value)))

pub returns : goal.returns
returns c =
    ap (λ es. state_of (holding c.self.inside.models c.self.inside.twins es)) c.remove.ensures.edges
    ∙ links_without c.args.source.now c.args.id.now (holding c.self.inside.models c.self.inside.twins c.self.inside.links)
    ∙ ap (λ g. after_drop_rel (state_of g) c.args.source.now c.args.id.now) c.self.view_is
