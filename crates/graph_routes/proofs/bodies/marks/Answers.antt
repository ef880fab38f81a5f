use Rattle.std.proofs.Common.{inr, refl}
use Rattle.json_tree.specs.View.{view}
use Rattle.json_read.proofs.Pointed.{if_ok}
use Rattle.graph_routes.specs.ModelRequests.{Marks}
use Rattle.graph_routes.specs.Outcomes.{WithBody}
use Rattle.graph_routes.proofs.bodies.marks.Goals as goal

pub returns-in-Ok : goal.returns-in-Ok
returns-in-Ok c =
    let value = view c.in-Ok.tree in
    if_ok c.mark_of.result (Marks c.args.id value) (WithBody c.args.body.now (Marks c.args.id))
    (λ answer gives. inr (value, (c.in-Ok.ensures value).1 refl, gives)) c.mark_of.ensures
