use Rattle.std.proofs.Common.{sym, subst, ◌∙◌, true≢false}
use Rattle.dt_base.specs.names.Grammar.{dtmi_text}
use Rattle.graph_asks.specs.declared.refusal.Refusal.{Refusal}
use Rattle.graph_steps.specs.held.Held.{state_of}
use Rattle.graph_steps.specs.TwinAsks.{Decommissioned}
use Rattle.graph_judges.proofs.twins.Marked.{marked, unmarked}
use Rattle.graph_judges.proofs.twins.marks.unless_marked.Goals as goal

pub returns-then-not-is_marked : goal.returns-then-not-is_marked
returns-then-not-is_marked c =
    unmarked (state_of c.args.lent.now) c.args.id.now c.args.model.now c.requires (λ is. true≢false (sym (c.is_marked.ensures.1 is) ∙ c.if-not-is_marked.true))

pub returns : goal.returns
returns c =
    subst (λ (r : Refusal). Decommissioned (state_of c.args.lent.now) c.args.id.now (dtmi_text c.args.model.now) r) (sym c.in_ok-refusal.ensures)
    (marked (state_of c.args.lent.now) c.args.id.now c.args.model.now (c.is_marked.ensures.0 c.if-not-is_marked.false) (λ of. true≢false (sym (c.is_of.ensures.1 of) ∙ c.if-is_of.false)))
