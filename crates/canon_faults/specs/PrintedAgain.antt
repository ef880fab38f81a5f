-- What the canonical text of interfaces declares, read as a document.
use Rattle.std.specs.Prelude.{◌≡◌, ℕ, List, map}
use Rattle.std.specs.List.{AllByRecursion}
use Rattle.json_tree.specs.Values.{Json}
use Rattle.json_tree.specs.Grammar.{Spells}
use Rattle.dtdl_terms.specs.Equality.{DeclareTheSame, SameElements}
use Rattle.dtdl_terms.specs.declared.interface.Interface.{Interface}
use Rattle.dtdl_terms.specs.declared.uploaded.Uploaded.{Uploaded}
use Rattle.local_rules.specs.Breaches.{BreaksNoLocalRule}
use Rattle.local_rules.specs.Soundness.{IsSoundInterface}
use Rattle.model_read.specs.Uploads.{AreUploaded}
use Rattle.canon_text.specs.Canonical.{set_text}

-- The canonical text spells a value that breaks no local rule. Read as the nth document it declares these interfaces, each
-- of which is sound; they declare the same as those that were printed, and have the same canonical text.
pub record IsPrintedAgain (is : List Interface) (nth : ℕ) (us : List Uploaded) : Type 0 where
  pub value : Json
  pub spelled : Spells (set_text is) value
  pub unbroken : BreaksNoLocalRule value
  pub uploaded : AreUploaded value nth us
  pub sound : AllByRecursion (λ u. IsSoundInterface u.interface) us
  pub same : SameElements DeclareTheSame is (map (λ u. u.interface) us)
  pub text : set_text (map (λ u. u.interface) us) ≡ set_text is
