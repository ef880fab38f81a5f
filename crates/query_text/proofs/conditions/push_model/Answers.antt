use Rattle.std.proofs.Common.{◌++◌, ◌∷◌, [], string_bytes, codes}
use Rattle.std.proofs.lemmas.Result.{on_ok_weaker}
use Rattle.query_text.specs.Printed.{model_text, twin_argument, exact_text}
use Rattle.query_text.proofs.Parts.{four}
use Rattle.query_text.proofs.conditions.push_model.Goals as goal

pub returns : goal.returns
returns c =
    on_ok_weaker c.push_model_end.result (λ e. four (string_bytes c.args.out.now) _ _ _ _ (codes "IS_OF_MODEL(") (twin_argument c.args.twin.now) (model_text c.args.model.now) (exact_text c.args.exact ++ 41 ∷ [])
    c.in_ok-push_str.ensures.bytes c.in_ok-push_twin.ensures c.in_ok-push_identifier.ensures e) c.push_model_end.ensures
