-- What is asked of the paths of relationships.
use Rattle.std.specs.Prelude.{◌≡◌, ℕ, List, Some, codes}
use Rattle.json_tree.specs.Values.{Json}
use Rattle.json_tree.specs.View.{view}
use Rattle.json_tree.specs.declared.tree.Tree.{Tree}
use Rattle.twin_patch.specs.declared.entry.PatchOf.TheVariants as patches
use Rattle.twin_patch.specs.declared.patch.Patch.{Patch}
use Rattle.dt_base.specs.names.Grammar.{NameText}
use Rattle.twin_value.specs.Breaches.{IsOuterLinkBreach, IsTwinId, text_under}
use Rattle.graph_asks.specs.declared.ask.Ask.TheVariants as asks
use Rattle.graph_asks.specs.declared.refusal.Refusal.TheVariants as refusals
use Rattle.graph_routes.specs.Identifiers.{link_ids}
use Rattle.graph_routes.specs.Outcomes.{Named, WithBody, WithPatch, WithValue, not_allowed}
use Rattle.graph_routes.specs.Parameters.{BeginsPastId, BeginsPastPair, name_asked, token_given}
use Rattle.graph_routes.specs.TwinRequests.{WithId}
use Rattle.graph_routes.specs.declared.method.Method.{Method}
use Rattle.graph_routes.specs.declared.method.Method.TheVariants as method
use Rattle.graph_routes.specs.declared.prepared.Prepared.{Prepared}
use Rattle.graph_routes.specs.declared.prepared.Prepared.TheVariants.{Ask}
use Rattle.graph_routes.specs.declared.route.Route.TheVariants as route

-- The ask with the value as a relationship of this source and id, of the name and to the target that the value gives.
abbrev pub TakesLink : List ℕ → List ℕ → Json → Prepared → Type 0
TakesLink source id v answer = (name target : List ℕ) × (body : Tree) × NameText name × IsTwinId target
    × (text_under (codes "$relationshipName") v ≡ Some name) × (text_under (codes "$targetId") v ≡ Some target) × (view body ≡ v)
    × (answer ≡ Ask (asks.PutRel source id name target body))

-- A relationship of this source and id to put.
abbrev pub PutsLink : List ℕ → List ℕ → Json → Prepared → Type 0
PutsLink source id v answer = WithValue (IsOuterLinkBreach v) (link_ids source id) v (TakesLink source id v) answer

abbrev pub PatchesLink : List ℕ → List ℕ → Json → Prepared → Type 0
PatchesLink source id v answer = WithPatch patches.Rel (λ (patch : Patch). asks.PatchRel source id patch) v answer

-- `/digitaltwins/{id}/relationships/{rid}` with these parts and this body.
abbrev pub AsksLink : Method → List ℕ → List ℕ → List ℕ → Prepared → Type 0
AsksLink method.Get part second body answer = WithId 0 part (λ source. WithId 1 second (λ id given. given ≡ Ask (asks.GetRel source id))) answer
AsksLink method.Put part second body answer = WithId 0 part (λ source. WithId 1 second (λ id. WithBody body (PutsLink source id))) answer
AsksLink method.Patch part second body answer = WithId 0 part (λ source. WithId 1 second (λ id. WithBody body (PatchesLink source id))) answer
AsksLink method.Delete part second body answer = WithId 0 part (λ source. WithId 1 second (λ id given. given ≡ Ask (asks.DropRel source id))) answer
AsksLink other part second body answer = answer ≡ not_allowed route.Relationship

-- `/digitaltwins/{id}/relationships` with this part and these parameters.
abbrev pub AsksLinks : Method → List ℕ → List ℕ → Prepared → Type 0
AsksLinks method.Get part query answer = WithId 0 part
    (λ source. Named (BeginsPastId (token_given query)) refusals.BadToken (λ after given. given ≡ Ask (asks.ListOut source (name_asked query) after))) answer
AsksLinks other part query answer = answer ≡ not_allowed route.Relationships

-- `/digitaltwins/{id}/incomingrelationships` with this part and these parameters.
abbrev pub AsksIncoming : Method → List ℕ → List ℕ → Prepared → Type 0
AsksIncoming method.Get part query answer = WithId 0 part
    (λ target. Named (BeginsPastPair (token_given query)) refusals.BadToken (λ after given. given ≡ Ask (asks.ListIn target after))) answer
AsksIncoming other part query answer = answer ≡ not_allowed route.IncomingRelationships
