use Rattle.std.proofs.Common.{◌⊎◌, Option, sym, subst}
use Rattle.json_tree.specs.View.{view}
use Rattle.local_rules.specs.Breaches.{BreaksAlone, IsFirstOf}
use Rattle.local_rules.specs.Machinery.Marks.{BreaksMark}
use Rattle.local_rules.specs.declared.rule.LocalRule.{LocalRule}
use Rattle.local_rules.proofs.Firsts.{first_either, first_known}
use Rattle.local_rules.proofs.own.marked_rule.Goals as goal

pub returns : goal.returns
returns c =
    let marked = subst (λ (found : Option LocalRule). IsFirstOf (λ one. BreaksMark one c.args.marked) found) (sym c.mark_rule.ensures) (first_known _) in
    let both = first_either (λ one. BreaksAlone one c.args.marked.role (view c.args.tree.now)) (λ one. BreaksMark one c.args.marked) c.own_rule.result c.mark_rule.result c.own_rule.ensures marked in
    subst (λ (found : Option LocalRule). IsFirstOf (λ one. BreaksAlone one c.args.marked.role (view c.args.tree.now) ⊎ BreaksMark one c.args.marked) found) (sym c.earlier.ensures) both
