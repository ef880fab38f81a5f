-- The ask that a request makes, or the refusal that its own bytes decide. The refusals are decided in this order: no such
-- path, no such method, the first part that is no identifier, a parameter that is no token, a body that is no JSON text, too many
-- models, the faults of models, patches and bodies, identifiers that differ from those of the path, a text that is no query, and
-- a token in a body that is none.
use Rattle.std.specs.Prelude.{◌≡◌, ◌⊎◌, ℕ, List, Contains}
use Rattle.http_ends.specs.declared.request.Request.{Request}
use Rattle.graph_asks.specs.Asks.{AreOneAsk}
use Rattle.graph_asks.specs.declared.refusal.Refusal.TheVariants as refusals
use Rattle.graph_routes.specs.Paths.{Matches}
use Rattle.graph_routes.specs.Methods.{method_text, methods}
use Rattle.graph_routes.specs.Outcomes.{not_allowed}
use Rattle.graph_routes.specs.Parts.{part_at}
use Rattle.graph_routes.specs.ModelRequests.{AsksCanon, AsksModel, AsksModels}
use Rattle.graph_routes.specs.TwinRequests.{AsksPart, AsksTwin}
use Rattle.graph_routes.specs.LinkRequests.{AsksIncoming, AsksLink, AsksLinks}
use Rattle.graph_routes.specs.QueryRequests.{AsksQuery}
use Rattle.graph_routes.specs.declared.method.Method.{Method}
use Rattle.graph_routes.specs.declared.prepared.Prepared.{Prepared}
use Rattle.graph_routes.specs.declared.prepared.Prepared.TheVariants.{Ask, Own}
use Rattle.graph_routes.specs.declared.route.Route.{Route}
use Rattle.graph_routes.specs.declared.route.Route.TheVariants as route

-- What a method asks of a path with these parts. A body or a parameter that is not spoken of is ignored.
abbrev pub Asks : Route → Method → List (List ℕ) → Request → Prepared → Type 0
Asks route.Models m parts request answer = AsksModels m request.body answer
Asks route.Model m parts request answer = AsksModel m (part_at 0 parts) request.body answer
Asks route.Canon m parts request answer = AsksCanon m answer
Asks route.Twin m parts request answer = AsksTwin m (part_at 0 parts) request.body answer
Asks route.Component m parts request answer = AsksPart m (part_at 0 parts) (part_at 1 parts) request.body answer
Asks route.Relationships m parts request answer = AsksLinks m (part_at 0 parts) request.query answer
Asks route.Relationship m parts request answer = AsksLink m (part_at 0 parts) (part_at 1 parts) request.body answer
Asks route.IncomingRelationships m parts request answer = AsksIncoming m (part_at 0 parts) request.query answer
Asks route.Query m parts request answer = AsksQuery m request.body answer

-- The name is that of a method which the path has.
abbrev pub IsMethodOf : Route → List ℕ → Method → Type 0
IsMethodOf r name m = (name ≡ method_text m) × Contains (methods r) m

-- What is asked of a path of the table.
abbrev pub AsksOf : Route → List (List ℕ) → Request → Prepared → Type 0
AsksOf r parts request answer = (((m : Method) → IsMethodOf r request.method m → ⊥) × (answer ≡ not_allowed r))
    ⊎ ((m : Method) × IsMethodOf r request.method m × Asks r m parts request answer)

-- The path is one of the table, which does not have the method.
abbrev pub LacksMethod : Request → Type 0
LacksMethod request = (r : Route) × (parts : List (List ℕ)) × Matches r parts request.path × ((m : Method) → IsMethodOf r request.method m → ⊥)

-- The request is this ask, or its bytes decide this refusal.
unfoldable pub IsPrepared : Request → Prepared → Type 0
IsPrepared request answer = (((r : Route) (parts : List (List ℕ)) → Matches r parts request.path → ⊥) × (answer ≡ Own refusals.NoRoute))
    ⊎ ((r : Route) × (parts : List (List ℕ)) × Matches r parts request.path × AsksOf r parts request answer)

-- They are one ask, or one refusal.
abbrev pub ArePreparedAlike : Prepared → Prepared → Type 0
ArePreparedAlike (Ask ask) (Ask other) = AreOneAsk ask other
ArePreparedAlike p q = p ≡ q
