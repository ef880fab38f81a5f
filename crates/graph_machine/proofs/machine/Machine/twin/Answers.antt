use Rattle.std.proofs.Common.{◌∙◌, IfSome, sym, ap, subst}
use Rattle.std.specs.Option.{option_map}
use Rattle.graph_steps.specs.States.{twin_at}
use Rattle.graph_steps.specs.bodies.Kept.{twin_view, IsKeptTwin}
use Rattle.graph_steps.specs.held.Held.{holding, state_of}
use Rattle.graph_steps.proofs.held.Viewed.{twin_seen, twin_kept}
use Rattle.graph_machine.proofs.machine.Machine.twin.Goals as goal

pub returns-clause-at : goal.returns-clause-at
returns-clause-at c =
    ap (option_map twin_view) c.get.ensures
    ∙ sym (twin_seen (holding c.self.inside.models c.self.inside.twins c.self.inside.links) c.args.id.now)
    ∙ ap (λ g. twin_at c.args.id.now (state_of g)) c.self.view_is

pub returns-clause-kept : goal.returns-clause-kept
returns-clause-kept c = subst (λ o. IfSome o (λ t. IsKeptTwin (twin_view t))) (sym c.get.ensures) (twin_kept c.args.id.now c.self.inside.twins c.self.invariant.held.twins)
