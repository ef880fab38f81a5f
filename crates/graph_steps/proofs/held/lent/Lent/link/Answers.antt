use Rattle.std.proofs.Common.{◌≡◌, ◌∙◌, length, IfSome, sym, ap, subst}
use Rattle.std.specs.Option.{option_map}
use Rattle.graph_steps.specs.LinkAsks.{link_at}
use Rattle.graph_steps.specs.States.{link_text}
use Rattle.graph_steps.specs.bodies.Kept.{IsKeptLink}
use Rattle.graph_steps.specs.held.Held.{holding, state_of, link_of}
use Rattle.graph_steps.proofs.held.Viewed.{link_seen, link_kept, link_size}
use Rattle.graph_steps.proofs.held.lent.Lent.link.Goals as goal

pub returns-clause-at : goal.returns-clause-at
returns-clause-at c =
    ap (option_map link_of) c.get.ensures
    ∙ sym (link_seen (holding c.self.inside.models.now c.self.inside.twins.now c.self.inside.links.now) c.args.source.now c.args.id.now)
    ∙ ap (λ g. link_at c.args.source.now c.args.id.now (state_of g)) c.self.view_is

pub returns-clause-kept : goal.returns-clause-kept
returns-clause-kept c = subst (λ o. IfSome o (λ e. IsKeptLink (link_of e))) (sym c.get.ensures) (link_kept c.args.source.now c.args.id.now c.self.inside.links.now c.self.invariant.links)

pub returns-clause-size : goal.returns-clause-size
returns-clause-size c = subst (λ o. IfSome o (λ e. e.payload.bytes ≡ length (link_text (link_of e)))) (sym c.get.ensures) (link_size c.args.source.now c.args.id.now c.self.inside.links.now c.self.invariant.links)
