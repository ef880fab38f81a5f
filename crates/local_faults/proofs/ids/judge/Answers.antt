use Rattle.std.proofs.Common.{Option, sym, ap, ◌∙◌, subst}
use Rattle.json_tree.specs.View.{view, members_view}
use Rattle.local_rules.specs.Machinery.Firsts.{earlier}
use Rattle.local_rules.specs.declared.rule.LocalRule.{LocalRule}
use Rattle.local_faults.specs.Machinery.Walks.{JudgesMarked}
use Rattle.local_faults.proofs.IdSets.{judged_by}
use Rattle.local_faults.proofs.ids.judge.Goals as goal

pub returns : goal.returns
returns c =
    let ms = members_view c.args.schemas.now in
    let v = view c.args.tree.now in
    let found = c.earlier-2.ensures ∙ ap (λ (o : Option LocalRule). earlier c.marked_rule-by_itself.result o) c.earlier.ensures in
    subst (λ (o : Option LocalRule). JudgesMarked ms c.args.ids.now c.judge_id.new.ids c.args.marked v o) (sym found)
    (judged_by ms c.args.ids.now c.judge_id.new.ids c.args.marked v c.marked_rule-by_itself.result c.rule-by_schemas.result c.in_ok-by_id.by_id c.marked_rule-by_itself.ensures c.rule-by_schemas.ensures c.in_ok-by_id.ensures)
