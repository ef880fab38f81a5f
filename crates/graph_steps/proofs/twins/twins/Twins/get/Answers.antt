use Rattle.std.proofs.Common.{◌≡◌, Some, None, sym, ap, ◌∙◌}
use Rattle.std.specs.Option.{option_copied, option_map}
use Rattle.graph_steps.specs.declared.twins.held.Held.{Held}
use Rattle.graph_steps.specs.twins.Machinery.Keeping.{held_under}
use Rattle.graph_steps.proofs.twins.Kept.{under-twin_at}
use Rattle.graph_steps.proofs.twins.twins.Twins.get.Goals as goal

pub returns-in-Some : goal.returns-in-Some
returns-in-Some c =
    let looked : held_under c.self.inside.twins.entries c.args.id.now ≡ Some c.in-Some.held.now = sym c.get.ensures.value ∙ ap option_copied c.in-Some.is in
    ap (option_map (λ (h : Held). h.twin)) (sym looked) ∙ under-twin_at c.self.inside.twins.entries c.args.self.now c.self.invariant.own c.self.view_is c.args.id.now

pub returns-in-None : goal.returns-in-None
returns-in-None c =
    let looked : held_under c.self.inside.twins.entries c.args.id.now ≡ None = sym c.get.ensures.value ∙ ap option_copied c.in-None.is in
    ap (option_map (λ (h : Held). h.twin)) (sym looked) ∙ under-twin_at c.self.inside.twins.entries c.args.self.now c.self.invariant.own c.self.view_is c.args.id.now
