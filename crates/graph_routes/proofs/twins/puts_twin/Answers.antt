use Rattle.std.proofs.Common.{inr, refl}
use Rattle.json_tree.specs.View.{view}
use Rattle.json_read.proofs.Pointed.{if_ok}
use Rattle.graph_routes.specs.TwinRequests.{PutsTwin}
use Rattle.graph_routes.specs.Outcomes.{WithBody}
use Rattle.graph_routes.proofs.twins.puts_twin.Goals as goal

pub returns-in-Ok : goal.returns-in-Ok
returns-in-Ok c =
    let value = view c.in-Ok.tree in
    if_ok c.twin_of.result (PutsTwin c.args.id value) (WithBody c.args.body.now (PutsTwin c.args.id))
    (λ answer gives. inr (value, (c.in-Ok.ensures value).1 refl, gives)) c.twin_of.ensures
