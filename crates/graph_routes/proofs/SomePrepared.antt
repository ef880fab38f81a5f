-- Each request makes an ask, or its bytes decide a refusal.
use Rattle.std.proofs.Common.{ℕ, ◌⊎◌, inl, inr, List, refl}
use Rattle.dt_base.specs.Existence.{IsThere}
use Rattle.dt_base.proofs.Existence.{is_there, holds_or_not, from_there, map_there}
use Rattle.http_ends.specs.declared.request.Request.{Request}
use Rattle.graph_asks.specs.declared.refusal.Refusal.TheVariants as refusals
use Rattle.graph_routes.specs.Paths.{Matches}
use Rattle.graph_routes.specs.Outcomes.{not_allowed}
use Rattle.graph_routes.specs.Parts.{part_at}
use Rattle.graph_routes.specs.Prepared.{Asks, AsksOf, IsMethodOf, IsPrepared}
use Rattle.graph_routes.specs.declared.method.Method.{Method}
use Rattle.graph_routes.specs.declared.prepared.Prepared.{Prepared}
use Rattle.graph_routes.specs.declared.prepared.Prepared.TheVariants.{Own}
use Rattle.graph_routes.specs.declared.route.Route.{Route}
use Rattle.graph_routes.specs.declared.route.Route.TheVariants as route
use Rattle.graph_routes.proofs.SomeOutcome.{IsSome, Laws, Made}
use Rattle.graph_routes.proofs.SomeModels.{some_of_canon, some_of_model, some_of_models, some_of_query}
use Rattle.graph_routes.proofs.SomeTwins.{some_of_part, some_of_twin}
use Rattle.graph_routes.proofs.SomeLinks.{some_of_incoming, some_of_link, some_of_links}

some_ask : Laws → (r : Route) (m : Method) (parts : List (List ℕ)) (request : Request) → IsSome (Asks r m parts request)
some_ask laws route.Models m parts request = some_of_models laws m request.body
some_ask laws route.Model m parts request = some_of_model laws m (part_at 0 parts) request.body
some_ask laws route.Canon m parts request = some_of_canon m
some_ask laws route.Twin m parts request = some_of_twin laws m (part_at 0 parts) request.body
some_ask laws route.Component m parts request = some_of_part laws m (part_at 0 parts) (part_at 1 parts) request.body
some_ask laws route.Relationships m parts request = some_of_links m (part_at 0 parts) request.query
some_ask laws route.Relationship m parts request = some_of_link laws m (part_at 0 parts) (part_at 1 parts) request.body
some_ask laws route.IncomingRelationships m parts request = some_of_incoming m (part_at 0 parts) request.query
some_ask laws route.Query m parts request = some_of_query laws m request.body

some_asked : Laws → (r : Route) (parts : List (List ℕ)) (request : Request) → IsSome (AsksOf r parts request)
some_asked laws r parts request = from_there (holds_or_not ((m : Method) × IsMethodOf r request.method m)) decided
  where
    decided : ((m : Method) × IsMethodOf r request.method m) ⊎ ((m : Method) × IsMethodOf r request.method m → ⊥) → IsSome (AsksOf r parts request)
    decided (inl (m, is)) = map_there (λ (made : Made (Asks r m parts request)). (made.0, inr (m, is, made.1))) (some_ask laws r m parts request)
    decided (inr none) = is_there (not_allowed r, inl ((λ m is. none (m, is)), refl))

abbrev Found : Request → Type 0
Found request = (r : Route) × (parts : List (List ℕ)) × Matches r parts request.path

found : Laws → (request : Request) → Found request ⊎ (Found request → ⊥) → IsThere ((prepared : Prepared) × IsPrepared request prepared)
unfolding IsPrepared
found laws request (inl (r, parts, m)) =
    map_there (λ (made : Made (AsksOf r parts request)). (made.0, inr (r, parts, m, made.1))) (some_asked laws r parts request)
found laws request (inr none) = is_there (Own refusals.NoRoute, inl ((λ r parts m. none (r, parts, m)), refl))

pub some_prepared : Laws → (request : Request) → IsThere ((prepared : Prepared) × IsPrepared request prepared)
some_prepared laws request = from_there (holds_or_not (Found request)) (found laws request)
