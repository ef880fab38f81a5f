use Rattle.std.proofs.Common.{◌∙◌, IfSome, sym, ap, subst}
use Rattle.std.specs.Option.{option_map}
use Rattle.graph_steps.specs.LinkAsks.{link_at}
use Rattle.graph_steps.specs.bodies.Kept.{IsKeptLink}
use Rattle.graph_steps.specs.held.Held.{holding, state_of, link_of}
use Rattle.graph_steps.proofs.held.Viewed.{link_seen, link_kept}
use Rattle.graph_machine.proofs.machine.Machine.link.Goals as goal

pub returns-clause-at : goal.returns-clause-at
returns-clause-at c =
    ap (option_map link_of) c.get.ensures
    ∙ sym (link_seen (holding c.self.inside.models c.self.inside.twins c.self.inside.links) c.args.source.now c.args.id.now)
    ∙ ap (λ g. link_at c.args.source.now c.args.id.now (state_of g)) c.self.view_is

pub returns-clause-kept : goal.returns-clause-kept
returns-clause-kept c = subst (λ o. IfSome o (λ e. IsKeptLink (link_of e))) (sym c.get.ensures) (link_kept c.args.source.now c.args.id.now c.self.inside.links c.self.invariant.held.links)
