-- The paths of the resources, and which of them a path is.
use Rattle.std.specs.Prelude.{◌≡◌, ◌≢◌, ℕ, List, [], ◌∷◌, ◌++◌, codes}
use Rattle.std.specs.List.{AllByRecursion}
use Rattle.graph_routes.specs.declared.route.Route.{Route}
use Rattle.graph_routes.specs.declared.route.Route.TheVariants as route

-- A piece of a path behind a slash: a word, or a part, for which any text without a slash stands but the empty one.
pub data Piece : Type 0 where
  word : List ℕ → Piece
  part : Piece

-- The pieces of each path.
abbrev pub pieces : Route → List Piece
pieces route.Models = word (codes "models") ∷ []
pieces route.Model = word (codes "models") ∷ part ∷ []
pieces route.Canon = word (codes "canon") ∷ []
pieces route.Twin = word (codes "digitaltwins") ∷ part ∷ []
pieces route.Component = word (codes "digitaltwins") ∷ part ∷ word (codes "components") ∷ part ∷ []
pieces route.Relationships = word (codes "digitaltwins") ∷ part ∷ word (codes "relationships") ∷ []
pieces route.Relationship = word (codes "digitaltwins") ∷ part ∷ word (codes "relationships") ∷ part ∷ []
pieces route.IncomingRelationships = word (codes "digitaltwins") ∷ part ∷ word (codes "incomingrelationships") ∷ []
pieces route.Query = word (codes "query") ∷ []

-- The code of a slash.
abbrev pub slash : ℕ
slash = 47

-- A text that may stand for a part.
pub record IsPathPart (text : List ℕ) : Type 0 where
  pub some : text ≢ []
  pub one : AllByRecursion (λ b. b ≢ slash) text

-- The path consists of these pieces, each behind a slash, with these texts for its parts, in their order.
abbrev pub ConsistsOf : List Piece → List (List ℕ) → List ℕ → Type 0
ConsistsOf [] parts path = (parts ≡ []) × (path ≡ [])
ConsistsOf (word text ∷ more) parts path = (rest : List ℕ) × (path ≡ slash ∷ (text ++ rest)) × ConsistsOf more parts rest
ConsistsOf (part ∷ more) parts path = (text : List ℕ) × (texts : List (List ℕ)) × (rest : List ℕ)
    × (parts ≡ text ∷ texts) × IsPathPart text × (path ≡ slash ∷ (text ++ rest)) × ConsistsOf more texts rest

-- The path is this one of the table, with these texts for its parts, as they stand, before anything is decoded.
abbrev pub Matches : Route → List (List ℕ) → List ℕ → Type 0
Matches r parts path = ConsistsOf (pieces r) parts path
