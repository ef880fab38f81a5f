-- From a patch that was found in a body to what comes of the body.
use Rattle.std.proofs.Common.{ℕ, List, Result, Ok, Err, refl, inl, inr}
use Rattle.std.specs.Prelude.{MatchResult}
use Rattle.json_tree.specs.Values.{Json}
use Rattle.json_tree.specs.Grammar.{Spells}
use Rattle.twin_patch.specs.Operations.{operations_of}
use Rattle.twin_patch.specs.Reading.{IsPatch}
use Rattle.twin_patch.specs.declared.entry.PatchOf.{PatchOf}
use Rattle.twin_patch.specs.declared.patch.Patch.{Patch}
use Rattle.graph_asks.specs.declared.ask.Ask as ask_type
use Rattle.graph_asks.specs.declared.refusal.Refusal.{Refusal}
use Rattle.graph_routes.specs.Bodies.{RefusesPatch}
use Rattle.graph_routes.specs.Machinery.Found.{ReadsPatchBody}
use Rattle.graph_routes.specs.Outcomes.{WithBody, WithPatch}
use Rattle.graph_routes.specs.declared.prepared.Prepared.TheVariants.{Ask, Own}

pub patch_read : (of : PatchOf) (body : List ℕ) (v : Json) → Spells body v → (found : Result Patch Refusal) → MatchResult found (λ patch. IsPatch of v (operations_of patch.ops)) (RefusesPatch of v) → ReadsPatchBody of body found
patch_read of body v spelled (Ok patch) h = (v, spelled, h)
patch_read of body v spelled (Err refusal) h = inr (v, spelled, h)

module _ (of : PatchOf) (ask : Patch → ask_type.Ask) (body : List ℕ) where
  pub patch_asked : (patch : Patch) → ReadsPatchBody of body (Ok patch) → WithBody body (WithPatch of ask) (Ask (ask patch))
  patch_asked patch (v, spelled, is) = inr (v, spelled, inr (patch, is, refl))

  pub patch_refused : (refusal : Refusal) → ReadsPatchBody of body (Err refusal) → WithBody body (WithPatch of ask) (Own refusal)
  patch_refused refusal (inl h) = inl (refusal, h, refl)
  patch_refused refusal (inr (v, spelled, h)) = inr (v, spelled, inl (refusal, h, refl))
