-- What is put by a request is sound.
use Rattle.std.proofs.Common.{ℕ, List}
use Rattle.json_tree.specs.Values.{Json}
use Rattle.json_tree.specs.Grammar.{Spells}
use Rattle.dtdl_terms.specs.declared.uploaded.Uploaded.{Uploaded}
use Rattle.graph_steps.specs.Soundness.{AreSoundUploads}
use Rattle.graph_routes.specs.Bodies.{DeclaresModels}
use Rattle.graph_routes.proofs.Documents.{documents_are_sound}

pub sound_models : (body : List ℕ) (v : Json) (models : List Uploaded) → Spells body v → DeclaresModels v models → AreSoundUploads models
sound_models body v models spelled (unbroken, are) = documents_are_sound body v 1 models spelled unbroken are
