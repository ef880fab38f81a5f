-- What is found in bodies on the way to an ask.
use Rattle.std.specs.Prelude.{◌≡◌, ℕ, ◌⊎◌, List, Option, Result, Ok, Err}
use Rattle.json_tree.specs.Values.{Json}
use Rattle.json_tree.specs.Grammar.{Spells}
use Rattle.json_tree.specs.Pointers.{IsPointerOf}
use Rattle.twin_patch.specs.Operations.{operations_of}
use Rattle.twin_patch.specs.Reading.{IsPatch}
use Rattle.twin_patch.specs.declared.entry.PatchOf.{PatchOf}
use Rattle.twin_patch.specs.declared.patch.Patch.{Patch}
use Rattle.twin_value.specs.Codes.{code_name}
use Rattle.twin_value.specs.declared.code.BodyCode.{BodyCode}
use Rattle.graph_asks.specs.declared.refusal.At.TheVariants as places
use Rattle.graph_asks.specs.declared.refusal.Refusal.{Refusal}
use Rattle.graph_asks.specs.declared.refusal.Refusal.TheVariants as refusals
use Rattle.graph_routes.specs.Bodies.{RefusesJson, RefusesPatch}
use Rattle.graph_routes.specs.Identifiers.{twin_ids, link_ids}
use Rattle.graph_routes.specs.declared.differences.PathIds.{PathIds}
use Rattle.graph_routes.specs.declared.differences.PathIds.TheVariants as ids

-- The body is this patch, or is refused by this.
abbrev pub ReadsPatchBody : PatchOf → List ℕ → Result Patch Refusal → Type 0
ReadsPatchBody of body (Ok patch) = (v : Json) × Spells body v × IsPatch of v (operations_of patch.ops)
ReadsPatchBody of body (Err refusal) = RefusesJson body refusal ⊎ ((v : Json) × Spells body v × RefusesPatch of v refusal)

-- The refusal names this place and this code.
abbrev pub NamesFault : Json → List ℕ → BodyCode → Refusal → Type 0
NamesFault v place code refusal = (pointer : List ℕ) × IsPointerOf v place pointer × (refusal ≡ refusals.BodyFault (places.Pointer pointer) (code_name code))

-- The identifiers of a path.
abbrev pub path_ids : PathIds → List ℕ → Option (List ℕ)
path_ids (ids.Twin id) = twin_ids id.now
path_ids (ids.Link source id) = link_ids source.now id.now
