-- Breaches as refusals.
use Rattle.std.specs.Prelude.{◌≡◌, ℕ, List, Option, Some, None}
use Rattle.json_tree.specs.Values.{Json}
use Rattle.json_tree.specs.Places.{IsSomewhere}
use Rattle.json_tree.specs.Pointers.{IsPointerOf}
use Rattle.json_tree.specs.declared.places.Place.{Place}
use Rattle.twin_value.specs.Codes.{code_name}
use Rattle.twin_value.specs.declared.code.BodyCode.{BodyCode}
use Rattle.twin_value.specs.declared.end.BodyEnd.{BodyEnd}
use Rattle.twin_value.specs.declared.end.BodyEnd.TheVariants as ends
use Rattle.graph_asks.specs.declared.refusal.At.TheVariants as places
use Rattle.graph_asks.specs.declared.refusal.Refusal.{Refusal}
use Rattle.graph_asks.specs.declared.refusal.Refusal.TheVariants as refusals
use Rattle.graph_steps.specs.declared.bodies.failure.BodyFailure.{BodyFailure}
use Rattle.graph_steps.specs.declared.bodies.failure.BodyFailure.TheVariants as failures

-- The refusal names this place and this code.
abbrev pub Names : Json → List ℕ → BodyCode → Refusal → Type 0
Names v place code r = (pointer : List ℕ) × IsPointerOf v place pointer × (r ≡ refusals.BodyFault (places.Pointer pointer) (code_name code))

-- Something stands where the breach is.
abbrev pub EndsSomewhere : Json → BodyEnd → Type 0
EndsSomewhere v (ends.Fault place code) = IsSomewhere v place.steps
EndsSomewhere v ends.OutOfMemory = Unit {0}

-- The failure tells how the reading ended.
abbrev pub TellsFailure : Json → BodyEnd → BodyFailure → Type 0
TellsFailure v (ends.Fault place code) (failures.Refused refusal) = Names v place.steps code refusal
TellsFailure v (ends.Fault place code) failures.OutOfMemory = Unit {0}
TellsFailure v ends.OutOfMemory (failures.Refused refusal) = ⊥
TellsFailure v ends.OutOfMemory failures.OutOfMemory = Unit {0}

-- A refusal tells the breach that there may be.
abbrev pub TellsBreach : Json → Option (Place × BodyCode) → Option Refusal → Type 0
TellsBreach v None None = Unit {0}
TellsBreach v None (Some refusal) = ⊥
TellsBreach v (Some b) None = ⊥
TellsBreach v (Some b) (Some refusal) = Names v b.0.steps b.1 refusal
