use Rattle.std.proofs.Common.{inr, refl}
use Rattle.json_tree.specs.View.{view}
use Rattle.json_read.proofs.Pointed.{if_ok}
use Rattle.graph_routes.specs.LinkRequests.{PutsLink}
use Rattle.graph_routes.specs.Outcomes.{WithBody}
use Rattle.graph_routes.proofs.links.puts_link.Goals as goal

pub returns-in-Ok : goal.returns-in-Ok
returns-in-Ok c =
    let value = view c.in-Ok.tree in
    if_ok c.link_of.result (PutsLink c.args.source c.args.id value) (WithBody c.args.body.now (PutsLink c.args.source c.args.id))
    (λ answer gives. inr (value, (c.in-Ok.ensures value).1 refl, gives)) c.link_of.ensures
