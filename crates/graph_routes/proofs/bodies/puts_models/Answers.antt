use Rattle.std.proofs.Common.{inr, refl}
use Rattle.json_tree.specs.View.{view}
use Rattle.json_read.proofs.Pointed.{if_ok}
use Rattle.graph_routes.specs.ModelRequests.{PutsModels}
use Rattle.graph_routes.specs.Outcomes.{WithBody}
use Rattle.graph_routes.proofs.bodies.puts_models.Goals as goal

pub returns-in-Ok : goal.returns-in-Ok
returns-in-Ok c =
    let value = view c.in-Ok.tree in
    if_ok c.models_of.result (PutsModels value) (WithBody c.args.body.now PutsModels)
    (λ answer gives. inr (value, (c.in-Ok.ensures value).1 refl, gives)) c.models_of.ensures
