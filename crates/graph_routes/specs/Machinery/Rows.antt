-- The rows of the router: the paths of the table in its order.
use Rattle.std.specs.Prelude.{ℕ, List, [], ◌∷◌, ◌++◌, codes}
use Rattle.matchit.specs.Rows.{RowsOf, param_token}
use Rattle.matchit.specs.Router.{RouteOf}
use Rattle.graph_routes.specs.declared.route.Route.{Route}
use Rattle.graph_routes.specs.declared.route.Route.TheVariants as route

-- A row: its tokens, its text, where the names of its parts stand in that, and its path.
abbrev pub row : List ℕ → List ℕ → List (ℕ × ℕ) → Route → List ℕ × RouteOf Route
row pattern text names r = (pattern, record { pattern = pattern; text = text; names = names; value = r })

unfoldable pub table : RowsOf (RouteOf Route)
table =
    row (codes "/canon") (codes "/canon") [] route.Canon
    ∷ row (codes "/digitaltwins/" ++ param_token ∷ (codes "/components/" ++ param_token ∷ [])) (codes "/digitaltwins/{id}/components/{name}") ((15, 17) ∷ (31, 35) ∷ []) route.Component
    ∷ row (codes "/digitaltwins/" ++ param_token ∷ codes "/incomingrelationships") (codes "/digitaltwins/{id}/incomingrelationships") ((15, 17) ∷ []) route.IncomingRelationships
    ∷ row (codes "/digitaltwins/" ++ param_token ∷ (codes "/relationships/" ++ param_token ∷ [])) (codes "/digitaltwins/{id}/relationships/{rid}") ((15, 17) ∷ (34, 37) ∷ []) route.Relationship
    ∷ row (codes "/digitaltwins/" ++ param_token ∷ codes "/relationships") (codes "/digitaltwins/{id}/relationships") ((15, 17) ∷ []) route.Relationships
    ∷ row (codes "/digitaltwins/" ++ param_token ∷ []) (codes "/digitaltwins/{id}") ((15, 17) ∷ []) route.Twin
    ∷ row (codes "/models/" ++ param_token ∷ []) (codes "/models/{id}") ((9, 11) ∷ []) route.Model
    ∷ row (codes "/models") (codes "/models") [] route.Models
    ∷ row (codes "/query") (codes "/query") [] route.Query
    ∷ []
