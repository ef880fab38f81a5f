use Rattle.json_tree.specs.View.{view}
use Rattle.graph_steps.specs.held.Held.{state_of}
use Rattle.graph_judges.proofs.twins.Judging.{body_judged}
use Rattle.graph_judges.proofs.twins.body.judged_of.Goals as goal

pub returns-clause-judged : goal.returns-clause-judged
returns-clause-judged c =
    body_judged (state_of c.args.lent.now) c.args.id.now c.args.interface.now (view c.args.tree.now) c.in_ok-unless_marked.ensures c.in_ok-twin.ensures.twin.0 c.in_ok-twin.twin c.in_ok-twin.ensures.twin.1
    c.judged_new.result c.judged_new.ensures.judged
