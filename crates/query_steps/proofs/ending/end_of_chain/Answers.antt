use Rattle.query_steps.proofs.Endings.{ends}
use Rattle.query_steps.proofs.ending.end_of_chain.Goals as goal

pub returns-in-Ok : goal.returns-in-Ok
returns-in-Ok c = ends c.args.notes c.args.head c.args.before c.args.built _ _ _ c.in-None.ensures c.in-Ok.ensures c.query_of.ensures
