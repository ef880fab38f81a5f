use Rattle.std.proofs.Common.{Ok, refl}
use Rattle.query_bodies.specs.Outcomes.{IsMadeOfBody}
use Rattle.json_tree.specs.View.{view}
use Rattle.graph_routes.proofs.queries.rows_of.Goals as goal

pub returns-in-Ok : goal.returns-in-Ok
returns-in-Ok c =
    let made : IsMadeOfBody (view c.args.tree.now) (Ok c.in-Ok.ask) = rw c.in-Ok.is at c.in_ok-ask.ensures in
    (Ok c.in-Ok.ask, made, refl)
