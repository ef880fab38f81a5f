-- What comes of one thing in a request: a refusal, or what the rest of the request gives.
use Rattle.std.specs.Prelude.{◌≡◌, ℕ, ◌⊎◌, List, Option, Some, None}
use Rattle.json_tree.specs.Values.{Json}
use Rattle.json_tree.specs.Grammar.{Spells}
use Rattle.json_tree.specs.Members.{members_in}
use Rattle.twin_patch.specs.Operations.{operations_of}
use Rattle.twin_patch.specs.Reading.{IsPatch}
use Rattle.twin_patch.specs.declared.entry.PatchOf.{PatchOf}
use Rattle.twin_patch.specs.declared.patch.Patch.{Patch}
use Rattle.twin_value.specs.Breaches.{HasNoBreach}
use Rattle.twin_value.specs.declared.code.BodyCode.{BodyCode}
use Rattle.graph_asks.specs.declared.ask.Ask as ask_type
use Rattle.graph_asks.specs.declared.refusal.Refusal.{Refusal}
use Rattle.graph_asks.specs.declared.refusal.Refusal.TheVariants as refusals
use Rattle.graph_steps.specs.TwinAsks.{BodyFault}
use Rattle.graph_routes.specs.Bodies.{RefusesJson, RefusesPatch}
use Rattle.graph_routes.specs.Identifiers.{first_difference}
use Rattle.graph_routes.specs.Methods.{allow_text}
use Rattle.graph_routes.specs.declared.prepared.Prepared.{Prepared}
use Rattle.graph_routes.specs.declared.prepared.Prepared.TheVariants.{Ask, Own}
use Rattle.graph_routes.specs.declared.route.Route.{Route}

-- The refusal of a method that a path does not have; it lists those that the path has.
abbrev pub not_allowed : Route → Prepared
not_allowed r = Own (refusals.BadMethod (allow_text r))

-- What has to name something: the refusal where it names nothing, or what comes of that which it names.
abbrev pub Named : {A : Type 0} → (A → Type 0) → Refusal → (A → Prepared → Type 0) → Prepared → Type 0
Named {A} Names refusal Gives answer = (((x : A) → Names x → ⊥) × (answer ≡ Own refusal)) ⊎ ((x : A) × Names x × Gives x answer)

-- A body that has to be a JSON text: a refusal, or what its value gives.
abbrev pub WithBody : List ℕ → (Json → Prepared → Type 0) → Prepared → Type 0
WithBody body Gives answer = ((refusal : Refusal) × RefusesJson body refusal × (answer ≡ Own refusal))
    ⊎ ((v : Json) × Spells body v × Gives v answer)

-- A value that has to be a patch of this kind: a refusal, or the ask with the patch.
abbrev pub WithPatch : PatchOf → (Patch → ask_type.Ask) → Json → Prepared → Type 0
WithPatch of ask v answer = ((refusal : Refusal) × RefusesPatch of v refusal × (answer ≡ Own refusal))
    ⊎ ((patch : Patch) × IsPatch of v (operations_of patch.ops) × (answer ≡ Ask (ask patch)))

-- A value that has to break nothing of this, and to give no other identifiers than the path: the refusal that names the
-- first breach, or the first difference, or what the value gives.
abbrev pub WithValue : (List ℕ → BodyCode → Type 0) → (List ℕ → Option (List ℕ)) → Json → (Prepared → Type 0) → Prepared → Type 0
WithValue Broken ids v Gives answer = ((refusal : Refusal) × BodyFault Broken v refusal × (answer ≡ Own refusal))
    ⊎ (HasNoBreach Broken × ((given path : List ℕ) × (first_difference ids (members_in v) ≡ Some (given, path)) × (answer ≡ Own (refusals.IdDiffers given path))))
    ⊎ (HasNoBreach Broken × (first_difference ids (members_in v) ≡ None) × Gives answer)
