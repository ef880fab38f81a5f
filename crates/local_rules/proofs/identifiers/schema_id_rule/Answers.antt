use Rattle.std.proofs.Common.{◌≡◌, sym, ap, ◌∙◌, subst}
use Rattle.json_tree.specs.Values.{Json, text}
use Rattle.json_tree.specs.View.{view}
use Rattle.local_rules.specs.Machinery.Firsts.{IdBreaksAt, IsFirstAmong, id_rules, schema_id_use}
use Rattle.json_tree.proofs.Views.{view-Text}
use Rattle.local_rules.proofs.identifiers.schema_id_rule.Goals as goal

pub returns-in-Text : goal.returns-in-Text
returns-in-Text c =
    let is : view c.args.tree.now ≡ text c.as_str.result.now = rw c.as_str.ensures (ap view c.in-Text.is ∙ view-Text c.in-Text.text) in
    subst (λ (v : Json). IsFirstAmong (IdBreaksAt schema_id_use v) id_rules c.schema_text_rule.result) (sym is) c.schema_text_rule.ensures
