use Rattle.std.proofs.Common.{◌≡◌, ◌∙◌, None, true, sym, ap, subst}
use Rattle.std.specs.List.{find}
use Rattle.std.specs.Option.{is_some}
use Rattle.graph_steps.specs.States.{is_end, twin_at, without_twin}
use Rattle.graph_steps.specs.held.Held.{holding, state_of, HoldsTogether}
use Rattle.graph_machine.proofs.Kept.{twin_kept_out}
use Rattle.graph_machine.proofs.Twins.{twin_free}
use Rattle.graph_steps.proofs.held.Viewed.{twins_without}
use Rattle.graph_machine.proofs.machine.Machine.take_twin.Goals as goal

pub invariant_of-self : goal.invariant_of-self
invariant_of-self c =
    let h = holding c.self.inside.models c.self.inside.twins c.self.inside.links in
    subst (λ ts. HoldsTogether (holding c.self.inside.models ts c.self.inside.links) c.self.inside.resolutions c.self.inside.link_bytes) (sym c.remove-twin.ensures.twins)
    (twin_kept_out h c.self.inside.resolutions c.self.inside.link_bytes c.self.invariant c.args.id.now
    (twin_free (state_of h) c.args.id.now
    (subst (λ g. is_some (twin_at c.args.id.now (state_of g)) ≡ true) (sym c.self.view_is) c.requires.there)
    (subst (λ g. find (is_end c.args.id.now) (state_of g).links ≡ None) (sym c.self.view_is) c.requires.unused)))

pub returns : goal.returns
returns c =
    ap (λ ts. state_of (holding c.self.inside.models ts c.self.inside.links)) c.remove-twin.ensures.twins
    ∙ twins_without c.args.id.now (holding c.self.inside.models c.self.inside.twins c.self.inside.links)
    ∙ ap (λ g. without_twin c.args.id.now (state_of g)) c.self.view_is
