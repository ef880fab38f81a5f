use Rattle.std.proofs.Common.{inr, refl}
use Rattle.json_tree.specs.View.{view}
use Rattle.json_read.proofs.Pointed.{if_ok}
use Rattle.graph_routes.specs.Outcomes.{WithBody}
use Rattle.graph_routes.specs.QueryRequests.{AsksRows}
use Rattle.graph_routes.proofs.queries.asks_rows.Goals as goal

pub returns-in-Ok : goal.returns-in-Ok
returns-in-Ok c =
    let value = view c.in-Ok.tree in
    if_ok c.rows_of.result (AsksRows value) (WithBody c.args.body.now AsksRows)
    (λ answer gives. inr (value, (c.in-Ok.ensures value).1 refl, gives)) c.rows_of.ensures
