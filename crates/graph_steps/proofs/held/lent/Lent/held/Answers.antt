use Rattle.std.proofs.Common.{◌∙◌, IfSome, sym, ap, subst}
use Rattle.std.specs.Option.{option_map}
use Rattle.graph_steps.specs.States.{twin_at}
use Rattle.graph_steps.specs.held.Held.{holding, state_of, twin_of, IsHeldTwin}
use Rattle.graph_steps.proofs.held.Viewed.{held_seen, held_right}
use Rattle.graph_steps.proofs.held.lent.Lent.held.Goals as goal

pub returns-clause-at : goal.returns-clause-at
returns-clause-at c =
    ap (option_map twin_of) c.held.ensures
    ∙ sym (held_seen (holding c.self.inside.models.now c.self.inside.twins.now c.self.inside.links.now) c.args.id.now)
    ∙ ap (λ g. twin_at c.args.id.now (state_of g)) c.self.view_is

pub returns-clause-held : goal.returns-clause-held
returns-clause-held c = subst (λ o. IfSome o IsHeldTwin) (sym c.held.ensures) (held_right c.args.id.now c.self.inside.twins.now c.self.invariant.twins)
