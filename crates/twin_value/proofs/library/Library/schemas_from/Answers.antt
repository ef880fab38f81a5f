use Rattle.std.proofs.Common.{Some, [], sym, ap, ◌∙◌, map, unwrap_or}
use Rattle.std.specs.List.{find}
use Rattle.std.specs.Option.{option_map, option_copied}
use Rattle.dt_base.specs.names.Grammar.{dtmi_text}
use Rattle.dtdl_terms.specs.TermViews.{schema_term}
use Rattle.dtdl_terms.specs.declared.resolved.NamedIn.{NamedIn}
use Rattle.twin_value.specs.Named.{is_called}
use Rattle.twin_value.proofs.Linked.{schemas_found}
use Rattle.twin_value.proofs.library.Library.schemas_from.Goals as goal

pub returns-in-Some : goal.returns-in-Some
returns-in-Some c =
    ap (λ o. map schema_term (unwrap_or o [])) (sym (ap option_copied c.in-Some.is))
    ∙ schemas_found c.args.self.now c.args.from.now c.as_str.result.now (option_copied c.get.result) c.as_str.ensures.same
    (ap (λ o. unwrap_or o []) c.get.ensures.value ∙ (c.self.invariant.0 c.as_str.result.now ∙ ap (λ l. unwrap_or (option_map (λ (n : NamedIn). n.schemas) (find (λ (n : NamedIn). is_called c.as_str.result.now (Some (dtmi_text n.of))) l.named)) []) c.self.view_is))

pub returns : goal.returns
returns c =
    ap (map schema_term) c.self.invariant.1
    ∙ (ap (λ o. map schema_term (unwrap_or o [])) (sym (ap option_copied c.in_default.is))
    ∙ schemas_found c.args.self.now c.args.from.now c.as_str.result.now (option_copied c.get.result) c.as_str.ensures.same
    (ap (λ o. unwrap_or o []) c.get.ensures.value ∙ (c.self.invariant.0 c.as_str.result.now ∙ ap (λ l. unwrap_or (option_map (λ (n : NamedIn). n.schemas) (find (λ (n : NamedIn). is_called c.as_str.result.now (Some (dtmi_text n.of))) l.named)) []) c.self.view_is)))
