use Rattle.std.proofs.Common.{◌≡◌, Bool, codes, if◌then◌else◌, sym, ap, ◌∙◌, subst}
use Rattle.std.proofs.lemmas.Str.Pattern.{starts_text}
use Rattle.local_rules.specs.Machinery.Firsts.{IdBreaks, IsFirstAmong, id_rules, schema_id_use}
use Rattle.local_rules.specs.Identifiers.{IdUse, no_id, of_element}
use Rattle.local_rules.proofs.identifiers.schema_text_rule.Goals as goal

pub returns-then-starts_with : goal.returns-then-starts_with
returns-then-starts_with c =
    let begins = starts_text c.starts_with.result (codes "dtmi:") c.args.text.now c.starts_with.ensures.cases in
    let is : schema_id_use c.args.text.now ≡ of_element = ap (λ (b : Bool). if b then of_element else no_id) (sym begins ∙ c.if-starts_with.true) in
    subst (λ (u : IdUse). IsFirstAmong (IdBreaks u c.args.text.now) id_rules c.element_id_text_rule.result) (sym is) c.element_id_text_rule.ensures
