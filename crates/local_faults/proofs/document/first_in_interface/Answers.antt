use Rattle.std.proofs.Common.{Option, Some, None, ◌∙◌, ap, subst}
use Rattle.json_tree.specs.View.{view, members_view}
use Rattle.local_rules.specs.declared.rule.LocalRule.{LocalRule}
use Rattle.local_faults.specs.Machinery.Walks.{Walks, found_by}
use Rattle.local_faults.proofs.Documents.{whole}
use Rattle.local_faults.proofs.document.first_in_interface.Goals as goal

pub returns-in-Some : goal.returns-in-Some
returns-in-Some c =
    let e = ap members_view c.in_ok-schemas.ensures ∙ c.members_in.ensures in
    let ms = members_view c.in_ok-schemas.schemas in
    let walked = subst (λ (o : Option LocalRule). Walks ms c.new-ids.result c.first_in.new.ids c.of_interface.result (view c.args.tree.now) (found_by c.first_in.new.steps o)) c.in-Some.is c.in_ok-rule.ensures in
    whole ms c.new-ids.result c.first_in.new.ids c.new-ids.ensures.empty (view c.args.tree.now) e c.of_interface.result c.of_interface.ensures (found_by c.first_in.new.steps (Some c.in-Some.rule)) walked

pub returns : goal.returns
returns c =
    let e = ap members_view c.in_ok-schemas.ensures ∙ c.members_in.ensures in
    let ms = members_view c.in_ok-schemas.schemas in
    let walked = subst (λ (o : Option LocalRule). Walks ms c.new-ids.result c.first_in.new.ids c.of_interface.result (view c.args.tree.now) (found_by c.first_in.new.steps o)) c.in-None.is c.in_ok-rule.ensures in
    whole ms c.new-ids.result c.first_in.new.ids c.new-ids.ensures.empty (view c.args.tree.now) e c.of_interface.result c.of_interface.ensures None walked
