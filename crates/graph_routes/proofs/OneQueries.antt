-- Of the path of queries one thing is asked.
use Rattle.std.proofs.Common.{ℕ, List, Ok, Err, ap}
use Rattle.json_tree.specs.Values.{Json}
use Rattle.query_bodies.specs.Outcomes.{AreOneOutcome, AskOrRefusal}
use Rattle.query_bodies.proofs.OneOutcome.{one_of_body}
use Rattle.graph_routes.specs.Prepared.{ArePreparedAlike}
use Rattle.graph_routes.specs.QueryRequests.{AsksQuery, AsksRows, prepared_of}
use Rattle.graph_routes.specs.declared.method.Method.{Method}
use Rattle.graph_routes.specs.declared.method.Method.TheVariants as method
use Rattle.graph_routes.specs.declared.prepared.Prepared.TheVariants.{Own}
use Rattle.graph_routes.specs.declared.route.Route.TheVariants as route
use Rattle.graph_routes.proofs.OneModels.{one_not_allowed}
use Rattle.graph_routes.proofs.OneOutcome.{IsOne, Laws, alike, one_with_body}

prepared_alike : (x y : AskOrRefusal) → AreOneOutcome x y → ArePreparedAlike (prepared_of x) (prepared_of y)
prepared_alike (Ok ask) (Ok other) h = h
prepared_alike (Ok ask) (Err refusal) h = absurd h
prepared_alike (Err refusal) (Ok ask) h = absurd h
prepared_alike (Err refusal) (Err other) h = ap Own h

one_rows : (v : Json) → IsOne (AsksRows v)
one_rows v p q (x, is, e) (y, has, f) = alike p q (prepared_of x) (prepared_of y) e f (prepared_alike x y (one_of_body v x y is has))

pub one_of_query : Laws → (m : Method) (body : List ℕ) → IsOne (AsksQuery m body)
one_of_query laws method.Post body = one_with_body laws.number body AsksRows one_rows
one_of_query laws method.Delete body = one_not_allowed route.Query
one_of_query laws method.Get body = one_not_allowed route.Query
one_of_query laws method.Patch body = one_not_allowed route.Query
one_of_query laws method.Put body = one_not_allowed route.Query
