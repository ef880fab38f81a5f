-- Documents that have no fault but perhaps one of the rules on sets.
use Rattle.std.specs.Prelude.{ℕ, List}
use Rattle.json_tree.specs.Values.{Json}
use Rattle.json_tree.specs.Grammar.{Spells}
use Rattle.local_rules.specs.Breaches.{BreaksNoLocalRule}
use Rattle.dtdl_terms.specs.declared.uploaded.Uploaded.{Uploaded}
use Rattle.model_read.specs.Uploads.{AreUploaded}

-- The bytes are a JSON text of a value that breaks no local rule, and these are the interfaces that it declares as the nth document.
abbrev pub IsFaultless : List ℕ → ℕ → List Uploaded → Type 0
IsFaultless bytes nth uploads = (v : Json) × Spells bytes v × BreaksNoLocalRule v × AreUploaded v nth uploads
