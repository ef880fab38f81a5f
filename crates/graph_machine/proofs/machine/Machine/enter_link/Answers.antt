use Rattle.std.proofs.Common.{◌+◌, ◌∙◌, unwrap_or, sym, ap, subst, arith}
use Rattle.std.specs.Option.{option_map}
use Rattle.rel_graph.specs.declared.edge.Edge.{Edge}
use Rattle.graph_steps.specs.declared.held.stored.Stored.{Stored}
use Rattle.graph_steps.specs.LinkAsks.{with_link}
use Rattle.graph_steps.specs.Typed.{WellTyped}
use Rattle.graph_steps.specs.held.Held.{Holding, holding, state_of, link_of, HoldsTogether}
use Rattle.graph_steps.proofs.held.Viewed.{links_with}
use Rattle.graph_machine.proofs.Kept.{link_kept_in, more_bytes}
use Rattle.graph_machine.proofs.machine.Machine.enter_link.Goals as goal

pub invariant_of-self-in-Err : goal.invariant_of-self-in-Err
invariant_of-self-in-Err c =
    subst (λ es. HoldsTogether (holding c.self.inside.models c.self.inside.twins es) c.self.inside.resolutions c.self.inside.link_bytes) (sym c.in-Err.ensures.err) c.self.invariant

pub overflow_add-self : goal.overflow_add-self
overflow_add-self c =
    let more = more_bytes (holding c.self.inside.models c.self.inside.twins c.self.inside.links) c.self.inside.resolutions c.self.inside.link_bytes c.self.invariant c.args.edge (subst (λ (h : Holding). WellTyped (with_link (link_of c.args.edge) (state_of h))) (sym c.self.view_is) c.requires.typed) c.requires.held c.bytes_of.result (c.bytes_of.ensures ∙ ap (λ o. unwrap_or (option_map (λ (e : Edge Stored). e.payload.bytes) o) 0) c.in-Ok.ensures.old) in
    let sum = more.0 in
    let most = more.1 in
    let rest = c.saturating_sub-rest.ensures in
    omega (arith, sum, most, rest)

pub invariant_of-self : goal.invariant_of-self
invariant_of-self c =
    let typed = subst (λ (h : Holding). WellTyped (with_link (link_of c.args.edge) (state_of h))) (sym c.self.view_is) c.requires.typed in
    let more = more_bytes (holding c.self.inside.models c.self.inside.twins c.self.inside.links) c.self.inside.resolutions c.self.inside.link_bytes c.self.invariant c.args.edge typed c.requires.held c.bytes_of.result (c.bytes_of.ensures ∙ ap (λ o. unwrap_or (option_map (λ (e : Edge Stored). e.payload.bytes) o) 0) c.in-Ok.ensures.old) in
    subst (λ es. HoldsTogether (holding c.self.inside.models c.self.inside.twins es) c.self.inside.resolutions (c.saturating_sub-rest.result + c.args.edge.payload.bytes)) (sym c.in-Ok.ensures.ok)
    (link_kept_in (holding c.self.inside.models c.self.inside.twins c.self.inside.links) c.self.inside.resolutions c.self.inside.link_bytes c.self.invariant c.args.edge typed c.requires.held (c.saturating_sub-rest.result + c.args.edge.payload.bytes)
    (ap (λ n. n + c.args.edge.payload.bytes) c.saturating_sub-rest.ensures ∙ more.0))

pub returns-in-Ok-clause-ok : goal.returns-in-Ok-clause-ok
returns-in-Ok-clause-ok c =
    ap (λ es. state_of (holding c.self.inside.models c.self.inside.twins es)) c.in-Ok.ensures.ok
    ∙ links_with c.args.edge (holding c.self.inside.models c.self.inside.twins c.self.inside.links)
    ∙ ap (λ (h : Holding). with_link (link_of c.args.edge) (state_of h)) c.self.view_is
