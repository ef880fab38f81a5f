use Rattle.std.proofs.Common.{◌+◌, ◌∙◌, ap, arith}
use Rattle.graph_steps.specs.States.{graph_bytes}
use Rattle.graph_steps.specs.held.Held.{Holding, holding, state_of}
use Rattle.graph_steps.proofs.held.Viewed.{bytes_held}
use Rattle.graph_steps.proofs.held.lent.Lent.bytes.Goals as goal

pub overflow_add-result : goal.overflow_add-result
overflow_add-result c =
    let limit = c.requires.limits.graph_bytes in
    let all = ap (λ n. n + c.self.inside.link_bytes) c.bytes.ensures ∙ bytes_held (holding c.self.inside.models.now c.self.inside.twins.now c.self.inside.links.now) c.self.inside.link_bytes c.self.invariant ∙ ap (λ (h : Holding). graph_bytes (state_of h)) c.self.view_is in
    omega (arith, all, limit)

pub returns : goal.returns
returns c =
    ap (λ n. n + c.self.inside.link_bytes) c.bytes.ensures
    ∙ bytes_held (holding c.self.inside.models.now c.self.inside.twins.now c.self.inside.links.now) c.self.inside.link_bytes c.self.invariant
    ∙ ap (λ (h : Holding). graph_bytes (state_of h)) c.self.view_is
