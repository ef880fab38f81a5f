use Rattle.std.proofs.Common.{◌∙◌, ap}
use Rattle.std.specs.List.{list_any}
use Rattle.graph_steps.specs.Conditions.{reaches_version}
use Rattle.query_eval.proofs.conditions.Starts.{one_of_those}
use Rattle.query_eval.proofs.conditions.models.one_reaches.Goals as goal

pub returns : goal.returns
returns c = c.any_reaches-2.ensures ∙ ap (list_any (λ id. reaches_version id c.args.named.now)) c.of_path.ensures ∙ one_of_those c.args.named.now c.args.ids.now
