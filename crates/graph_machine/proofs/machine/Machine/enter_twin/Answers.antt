use Rattle.std.proofs.Common.{◌∙◌, sym, ap, subst}
use Rattle.graph_steps.specs.bodies.Kept.{twin_view}
use Rattle.graph_steps.specs.States.{with_twin}
use Rattle.graph_steps.specs.Typed.{WellTyped}
use Rattle.graph_steps.specs.held.Held.{Holding, holding, state_of, HoldsTogether}
use Rattle.graph_steps.proofs.held.Viewed.{twins_with}
use Rattle.graph_machine.proofs.Kept.{twin_kept_in}
use Rattle.graph_machine.proofs.machine.Machine.enter_twin.Goals as goal

pub invariant_of-self : goal.invariant_of-self
invariant_of-self c =
    subst (λ ts. HoldsTogether (holding c.self.inside.models ts c.self.inside.links) c.self.inside.resolutions c.self.inside.link_bytes) (sym c.in_default.ensures.err) c.self.invariant

pub invariant_of-self-2 : goal.invariant_of-self-2
invariant_of-self-2 c =
    subst (λ ts. HoldsTogether (holding c.self.inside.models ts c.self.inside.links) c.self.inside.resolutions c.self.inside.link_bytes) (sym c.in-Ok.ensures.ok)
    (twin_kept_in (holding c.self.inside.models c.self.inside.twins c.self.inside.links) c.self.inside.resolutions c.self.inside.link_bytes c.self.invariant (record { twin = c.args.twin; bytes = c.args.bytes })
    (subst (λ (h : Holding). WellTyped (with_twin (twin_view c.args.twin) (state_of h))) (sym c.self.view_is) c.requires.typed) c.requires.held)

pub returns-clause-ok : goal.returns-clause-ok
returns-clause-ok c =
    ap (λ ts. state_of (holding c.self.inside.models ts c.self.inside.links)) c.in-Ok.ensures.ok
    ∙ twins_with (record { twin = c.args.twin; bytes = c.args.bytes }) (holding c.self.inside.models c.self.inside.twins c.self.inside.links)
    ∙ ap (λ (h : Holding). with_twin (twin_view c.args.twin) (state_of h)) c.self.view_is
