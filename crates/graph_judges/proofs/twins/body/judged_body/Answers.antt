use Rattle.std.proofs.Common.{sym}
use Rattle.json_tree.specs.View.{view}
use Rattle.graph_steps.specs.held.Held.{state_of}
use Rattle.graph_judges.proofs.twins.Judging.{own_place, at_model}
use Rattle.graph_judges.proofs.twins.body.judged_body.Goals as goal

pub judged_of-requires-clause-there : goal.judged_of-requires-clause-there
judged_of-requires-clause-there c = own_place (state_of c.args.lent.now) c.args.model.now c.in-Some.interface.now (sym c.in-Some.ensures)

pub returns-in-Some-clause-judged : goal.returns-in-Some-clause-judged
returns-in-Some-clause-judged c =
    at_model (state_of c.args.lent.now) c.args.id.now c.args.model.now (view c.args.tree.now) c.in-Some.interface.now (sym c.in-Some.ensures) c.judged_of.result c.judged_of.ensures.judged
