use Rattle.std.proofs.Common.{◌≡◌, Some, sym, ap, ◌∙◌}
use Rattle.std.specs.Option.{option_copied}
use Rattle.dtdl_terms.specs.Sets.{interface_at}
use Rattle.query_eval.proofs.conditions.Leading.{model_found}
use Rattle.query_eval.proofs.conditions.models.is_of_model.Goals as goal

pub returns-in-Some : goal.returns-in-Some
returns-in-Some c =
    let found : interface_at c.args.model.now c.args.set.now ≡ Some c.in-Some.interface.now = sym c.get.ensures ∙ ap option_copied c.in-Some.is in
    c.leads.ensures ∙ sym (model_found c.args.set.now c.args.exact c.args.model.now c.args.named.now c.in-Some.interface.now c.if-exact.false found)
