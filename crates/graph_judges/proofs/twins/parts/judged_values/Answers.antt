use Rattle.std.proofs.Common.{sym, subst}
use Rattle.json_tree.specs.Values.{Json}
use Rattle.json_tree.specs.View.{view}
use Rattle.graph_steps.specs.bodies.Kept.{IsKeptTwin, IsKeptPart}
use Rattle.graph_steps.specs.held.Held.{state_of, twin_of}
use Rattle.graph_steps.specs.States.{Twin}
use Rattle.graph_judges.proofs.twins.Kept.{kept_with}
use Rattle.graph_judges.proofs.twins.Patched.{values_judged}
use Rattle.graph_judges.proofs.twins.parts.judged_values.Goals as goal

pub within_limits-requires-clause-kept : goal.within_limits-requires-clause-kept
within_limits-requires-clause-kept c =
    let v = view c.args.tree.now in
    let same = c.in_ok-values.ensures.part.1 in
    subst (λ (t : Twin). IsKeptTwin t) (sym (c.in_ok-new.ensures.twin v same))
    (kept_with (twin_of c.args.held.now) c.args.name.now v c.requires.held.kept (subst (λ (w : Json). IsKeptPart w) same c.in_ok-values.ensures.kept) c.requires.has)

pub returns-clause-judged : goal.returns-clause-judged
returns-clause-judged c =
    let v = view c.args.tree.now in
    values_judged (state_of c.args.lent.now) c.args.name.now c.args.interface.now (twin_of c.args.held.now) v c.in_ok-values.ensures.part.0 c.in_ok-new.new (c.in_ok-new.ensures.twin v c.in_ok-values.ensures.part.1)
    c.within_limits.result c.within_limits.ensures.full
