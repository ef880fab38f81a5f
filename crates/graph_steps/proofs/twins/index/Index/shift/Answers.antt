use Rattle.std.proofs.Common.{sym, ◌∙◌}
use Rattle.std.proofs.lemmas.Map.Text.{is_eq-slice_cmp}
use Rattle.dt_base.specs.names.Grammar.{dtmi_text}
use Rattle.graph_steps.proofs.twins.Rows.{shifted-same, shifted-moves}
use Rattle.graph_steps.proofs.twins.index.Index.shift.Goals as goal

pub returns-then-eq-clause-ok : goal.returns-then-eq-clause-ok
returns-then-eq-clause-ok c =
    shifted-same c.args.self.now c.args.id.now c.args.from.now c.args.to.now c.requires
    (is_eq-slice_cmp (dtmi_text c.args.from.now) (dtmi_text c.args.to.now) ∙ sym c.eq.ensures ∙ c.if-eq.true)

pub returns-clause-ok : goal.returns-clause-ok
returns-clause-ok c =
    shifted-moves c.args.self.now c.args.id.now c.args.from.now c.args.to.now c.requires
    (is_eq-slice_cmp (dtmi_text c.args.from.now) (dtmi_text c.args.to.now) ∙ sym c.eq.ensures ∙ c.if-eq.false)
    c.enter.new.self c.leave.new.self c.in_ok-enter.ensures.ok c.leave.ensures
