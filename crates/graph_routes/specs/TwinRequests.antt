-- What is asked of the paths of twins and their components.
use Rattle.std.specs.Prelude.{◌≡◌, ℕ, List, Some}
use Rattle.json_tree.specs.Values.{Json}
use Rattle.json_tree.specs.View.{view}
use Rattle.json_tree.specs.declared.tree.Tree.{Tree}
use Rattle.dt_base.specs.names.Grammar.{Identifier, dtmi_text}
use Rattle.twin_patch.specs.declared.entry.PatchOf.TheVariants as patches
use Rattle.twin_patch.specs.declared.patch.Patch.{Patch}
use Rattle.twin_value.specs.Breaches.{IsOuterBreach}
use Rattle.twin_value.specs.Twins.{model_text}
use Rattle.page_tokens.specs.Tokens.{NamesId}
use Rattle.graph_asks.specs.declared.ask.Ask.TheVariants as asks
use Rattle.graph_asks.specs.declared.refusal.Refusal.TheVariants as refusals
use Rattle.graph_steps.specs.Soundness.{IsModelOf}
use Rattle.graph_routes.specs.Parts.{NamesComponentPart}
use Rattle.graph_routes.specs.Identifiers.{twin_ids}
use Rattle.graph_routes.specs.Outcomes.{Named, WithBody, WithPatch, WithValue, not_allowed}
use Rattle.graph_routes.specs.declared.method.Method.{Method}
use Rattle.graph_routes.specs.declared.method.Method.TheVariants as method
use Rattle.graph_routes.specs.declared.prepared.Prepared.{Prepared}
use Rattle.graph_routes.specs.declared.prepared.Prepared.TheVariants.{Ask}
use Rattle.graph_routes.specs.declared.route.Route.TheVariants as route

-- The part of a path at this position, which has to name a twin or a relationship.
abbrev pub WithId : ℕ → List ℕ → (List ℕ → Prepared → Type 0) → Prepared → Type 0
WithId at part Gives answer = Named (NamesId part) (refusals.BadId at) Gives answer

-- The second part, which has to name a component.
abbrev pub WithComponent : List ℕ → (List ℕ → Prepared → Type 0) → Prepared → Type 0
WithComponent part Gives answer = Named (NamesComponentPart part) (refusals.BadId 1) Gives answer

-- The ask with the value as a twin of this id, of the model that the value names.
abbrev pub TakesTwin : List ℕ → Json → Prepared → Type 0
TakesTwin id v answer = (model : Identifier) × (body : Tree) × IsModelOf model × (model_text v ≡ Some (dtmi_text model)) × (view body ≡ v)
    × (answer ≡ Ask (asks.PutTwin id model body))

-- A twin of this id to put.
abbrev pub PutsTwin : List ℕ → Json → Prepared → Type 0
PutsTwin id v answer = WithValue (IsOuterBreach v) (twin_ids id) v (TakesTwin id v) answer

abbrev pub PatchesTwin : List ℕ → Json → Prepared → Type 0
PatchesTwin id v answer = WithPatch patches.Twin (λ (patch : Patch). asks.PatchTwin id patch) v answer

abbrev pub PatchesPart : List ℕ → List ℕ → Json → Prepared → Type 0
PatchesPart id name v answer = WithPatch patches.Part (λ (patch : Patch). asks.PatchPart id name patch) v answer

-- `/digitaltwins/{id}` with this part and body.
abbrev pub AsksTwin : Method → List ℕ → List ℕ → Prepared → Type 0
AsksTwin method.Get part body answer = WithId 0 part (λ id given. given ≡ Ask (asks.GetTwin id)) answer
AsksTwin method.Put part body answer = WithId 0 part (λ id. WithBody body (PutsTwin id)) answer
AsksTwin method.Patch part body answer = WithId 0 part (λ id. WithBody body (PatchesTwin id)) answer
AsksTwin method.Delete part body answer = WithId 0 part (λ id given. given ≡ Ask (asks.DropTwin id)) answer
AsksTwin other part body answer = answer ≡ not_allowed route.Twin

-- `/digitaltwins/{id}/components/{name}` with these parts and this body.
abbrev pub AsksPart : Method → List ℕ → List ℕ → List ℕ → Prepared → Type 0
AsksPart method.Get part second body answer = WithId 0 part (λ id. WithComponent second (λ name given. given ≡ Ask (asks.GetPart id name))) answer
AsksPart method.Patch part second body answer = WithId 0 part (λ id. WithComponent second (λ name. WithBody body (PatchesPart id name))) answer
AsksPart other part second body answer = answer ≡ not_allowed route.Component
