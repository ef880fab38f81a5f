-- The methods of each path.
use Rattle.std.specs.Prelude.{ℕ, List, [], ◌∷◌, ◌++◌, codes}
use Rattle.graph_routes.specs.declared.method.Method.{Method}
use Rattle.graph_routes.specs.declared.method.Method.TheVariants as method
use Rattle.graph_routes.specs.declared.route.Route.{Route}
use Rattle.graph_routes.specs.declared.route.Route.TheVariants as route

-- Their names (RFC 9110, section 9.3, and RFC 5789).
abbrev pub method_text : Method → List ℕ
method_text method.Delete = codes "DELETE"
method_text method.Get = codes "GET"
method_text method.Patch = codes "PATCH"
method_text method.Post = codes "POST"
method_text method.Put = codes "PUT"

-- The methods that a path has, in the order of their names.
abbrev pub methods : Route → List Method
methods route.Models = method.Get ∷ method.Post ∷ []
methods route.Model = method.Delete ∷ method.Get ∷ method.Patch ∷ []
methods route.Canon = method.Get ∷ []
methods route.Twin = method.Delete ∷ method.Get ∷ method.Patch ∷ method.Put ∷ []
methods route.Component = method.Get ∷ method.Patch ∷ []
methods route.Relationships = method.Get ∷ []
methods route.Relationship = method.Delete ∷ method.Get ∷ method.Patch ∷ method.Put ∷ []
methods route.IncomingRelationships = method.Get ∷ []
methods route.Query = method.Post ∷ []

-- Methods as the field `Allow` lists them (RFC 9110, section 10.2.1).
abbrev pub listed : List Method → List ℕ
listed [] = []
listed (m ∷ []) = method_text m
listed (m ∷ n ∷ ms) = method_text m ++ (codes ", " ++ listed (n ∷ ms))

abbrev pub allow_text : Route → List ℕ
allow_text r = listed (methods r)
