-- What is asked of the paths of models.
use Rattle.std.specs.Prelude.{◌≡◌, ℕ, ◌⊎◌, List, Bool}
use Rattle.json_tree.specs.Values.{Json}
use Rattle.dt_base.specs.names.Grammar.{Identifier}
use Rattle.dtdl_terms.specs.declared.uploaded.Uploaded.{Uploaded}
use Rattle.twin_patch.specs.declared.entry.PatchOf.TheVariants as patches
use Rattle.graph_asks.specs.declared.ask.Ask.TheVariants as asks
use Rattle.graph_asks.specs.declared.refusal.Refusal.{Refusal}
use Rattle.graph_asks.specs.declared.refusal.Refusal.TheVariants as refusals
use Rattle.graph_routes.specs.Parts.{NamesModel}
use Rattle.graph_routes.specs.Bodies.{DeclaresModels, IsTooMany, RefusesModels, RefusesPatch, SetsMark, most_models}
use Rattle.graph_routes.specs.Outcomes.{Named, WithBody, not_allowed}
use Rattle.graph_routes.specs.declared.method.Method.{Method}
use Rattle.graph_routes.specs.declared.method.Method.TheVariants as method
use Rattle.graph_routes.specs.declared.prepared.Prepared.{Prepared}
use Rattle.graph_routes.specs.declared.prepared.Prepared.TheVariants.{Ask, Own}
use Rattle.graph_routes.specs.declared.route.Route.TheVariants as route

-- Models to put.
abbrev pub PutsModels : Json → Prepared → Type 0
PutsModels v answer = (IsTooMany v × (answer ≡ Own (refusals.TooManyModels most_models)))
    ⊎ ((IsTooMany v → ⊥) × ((refusal : Refusal) × RefusesModels v refusal × (answer ≡ Own refusal)))
    ⊎ ((IsTooMany v → ⊥) × ((models : List Uploaded) × DeclaresModels v models × (answer ≡ Ask (asks.PutModels models))))

-- A model's mark to set.
abbrev pub Marks : Identifier → Json → Prepared → Type 0
Marks id v answer = ((refusal : Refusal) × RefusesPatch patches.Model v refusal × (answer ≡ Own refusal))
    ⊎ ((on : Bool) × SetsMark v on × (answer ≡ Ask (asks.Mark id on)))

-- A part of a path that has to name a model.
abbrev pub WithModel : List ℕ → (Identifier → Prepared → Type 0) → Prepared → Type 0
WithModel part Gives answer = Named (NamesModel part) (refusals.BadId 0) Gives answer

-- `/models` with this body.
abbrev pub AsksModels : Method → List ℕ → Prepared → Type 0
AsksModels method.Get body answer = answer ≡ Ask asks.ListModels
AsksModels method.Post body answer = WithBody body PutsModels answer
AsksModels other body answer = answer ≡ not_allowed route.Models

-- `/models/{id}` with this part and body.
abbrev pub AsksModel : Method → List ℕ → List ℕ → Prepared → Type 0
AsksModel method.Get part body answer = WithModel part (λ id given. given ≡ Ask (asks.GetModel id)) answer
AsksModel method.Patch part body answer = WithModel part (λ id. WithBody body (Marks id)) answer
AsksModel method.Delete part body answer = WithModel part (λ id given. given ≡ Ask (asks.DropModel id)) answer
AsksModel other part body answer = answer ≡ not_allowed route.Model

-- `/canon`.
abbrev pub AsksCanon : Method → Prepared → Type 0
AsksCanon method.Get answer = answer ≡ Ask asks.Canon
AsksCanon other answer = answer ≡ not_allowed route.Canon
