use Rattle.std.proofs.Common.{◌≡◌, ◌+◌, ◌-◌, cond, length, Some, None, sym, ap, ◌∙◌, subst}
use Rattle.std.specs.Option.{option_map, is_some}
use Rattle.graph_steps.specs.declared.twins.held.Held.{Held}
use Rattle.graph_steps.specs.twins.Machinery.Keeping.{held_under, KeepsTwins}
use Rattle.graph_steps.proofs.twins.Kept.{under-twin_at}
use Rattle.graph_steps.proofs.twins.Steps.{kept-out}
use Rattle.graph_steps.proofs.twins.twins.Twins.remove.Goals as goal

pub returns-in_default-clause-value : goal.returns-in_default-clause-value
returns-in_default-clause-value c =
    let looked : held_under c.self.inside.twins.entries c.args.id.now ≡ None = sym (sym c.in_default.is ∙ c.remove.ensures.value) in
    ap (option_map (λ (h : Held). h.twin)) (sym looked) ∙ under-twin_at c.self.inside.twins.entries c.args.self.now c.self.invariant.own c.self.view_is c.args.id.now

pub returns-clause-value : goal.returns-clause-value
returns-clause-value c =
    let looked : held_under c.self.inside.twins.entries c.args.id.now ≡ Some c.in-Some.held = sym (sym c.in-Some.is ∙ c.remove.ensures.value) in
    ap (option_map (λ (h : Held). h.twin)) (sym looked) ∙ under-twin_at c.self.inside.twins.entries c.args.self.now c.self.invariant.own c.self.view_is c.args.id.now

pub invariant_of-self-2 : goal.invariant_of-self-2
invariant_of-self-2 c =
    let looked : held_under c.self.inside.twins.entries c.args.id.now ≡ Some c.in-Some.held = sym (sym c.in-Some.is ∙ c.remove.ensures.value) in
    let shorter : length c.remove.new.self.entries + 1 ≡ c.self.inside.len =
    sym (ap (λ o. length c.remove.new.self.entries + cond (is_some o) 1 0) c.in-Some.is) ∙ c.remove.ensures.len ∙ sym c.self.invariant.counted in
    subst (λ n. KeepsTwins c.remove.new.self.entries c.leave.new.self n c.saturating_sub-self-inside-2.result) (sym c.saturating_sub-self-inside.ensures)
    (subst (λ n. KeepsTwins c.remove.new.self.entries c.leave.new.self (c.self.inside.len - 1) n) (sym c.saturating_sub-self-inside-2.ensures)
    (kept-out c.self.inside.twins.entries c.self.inside.index c.self.inside.len c.self.inside.bytes c.self.invariant c.args.id.now c.remove.new.self.entries c.remove.ensures.entries c.in-Some.held looked
    shorter c.leave.new.self c.leave.ensures))
