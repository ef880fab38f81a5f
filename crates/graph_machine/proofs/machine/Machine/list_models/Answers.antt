use Rattle.std.proofs.Common.{◌∙◌, ap, inr, codes}
use Rattle.json_tree.specs.Values.{array, elements_of, object, member, no_members}
use Rattle.graph_asks.specs.Answers.{body}
use Rattle.graph_steps.specs.ModelAsks.{list_value}
use Rattle.graph_machine.proofs.Listed.{all_listed}
use Rattle.graph_machine.proofs.machine.Machine.list_models.Goals as goal

pub returns-clause-allowed : goal.returns-clause-allowed
returns-clause-allowed c = inr (
  (λ r h. h),
  ap (λ v. body v)
      (c.in_ok-list_tree.ensures
      ∙ ap (λ vs. object (member (codes "value") (array (elements_of vs)) no_members)) (c.in_ok-trees.ensures ∙ all_listed c.self.inside.models c.sound.ensures.ordered)
      ∙ ap (λ h. list_value h.models) c.self.view_is),
)
