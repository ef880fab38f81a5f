-- How reading a document ends.
use Rattle.std.specs.Prelude.{ℕ, List, Result, Ok, Err}
use Rattle.json_tree.specs.Values.{Json}
use Rattle.local_rules.specs.Breaches.{BreaksNoLocalRule, IsFirstBreach}
use Rattle.dtdl_terms.specs.declared.uploaded.Uploaded.{Uploaded}
use Rattle.model_read.specs.declared.end.LocalEnd.{LocalEnd}
use Rattle.model_read.specs.declared.end.LocalEnd.TheVariants as ends

-- A document is read only where no place of it breaks a local rule, and a fault is its first breach.
abbrev pub IsRightEnd : Json → Result (List Uploaded) LocalEnd → Type 0
IsRightEnd whole (Ok uploads) = BreaksNoLocalRule whole
IsRightEnd whole (Err (ends.Fault place rule)) = IsFirstBreach whole place.steps rule
IsRightEnd whole (Err ends.OutOfMemory) = Unit {0}
