-- What is asked of the path of queries.
use Rattle.std.specs.Prelude.{◌≡◌, ℕ, List, Ok, Err}
use Rattle.json_tree.specs.Values.{Json}
use Rattle.query_bodies.specs.Outcomes.{IsMadeOfBody, AskOrRefusal}
use Rattle.graph_routes.specs.Outcomes.{WithBody, not_allowed}
use Rattle.graph_routes.specs.declared.method.Method.{Method}
use Rattle.graph_routes.specs.declared.method.Method.TheVariants as method
use Rattle.graph_routes.specs.declared.prepared.Prepared.{Prepared}
use Rattle.graph_routes.specs.declared.prepared.Prepared.TheVariants.{Ask, Own}
use Rattle.graph_routes.specs.declared.route.Route.TheVariants as route

abbrev pub prepared_of : AskOrRefusal → Prepared
prepared_of (Ok ask) = Ask ask
prepared_of (Err refusal) = Own refusal

-- The ask for a page of the rows of the query that the value gives, or the refusal of a value that gives none.
abbrev pub AsksRows : Json → Prepared → Type 0
AsksRows v answer = (outcome : AskOrRefusal) × IsMadeOfBody v outcome × (answer ≡ prepared_of outcome)

-- `/query` with this body.
abbrev pub AsksQuery : Method → List ℕ → Prepared → Type 0
AsksQuery method.Post body answer = WithBody body AsksRows answer
AsksQuery other body answer = answer ≡ not_allowed route.Query
