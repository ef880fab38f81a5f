use Rattle.json_tree.specs.View.{view}
use Rattle.graph_steps.specs.held.Held.{state_of}
use Rattle.graph_judges.proofs.twins.Patched.{new_judged}
use Rattle.graph_judges.proofs.twins.patching.judged_new_body.Goals as goal

pub returns-clause-judged : goal.returns-clause-judged
returns-clause-judged c =
    new_judged (state_of c.args.lent.now) c.args.id.now (view c.args.tree.now) c.in_ok-unless_outer_fault.ensures c.in_ok-model.model c.in_ok-model.ensures c.judged_body.result c.judged_body.ensures.judged
