-- Refusals that name a fault.
use Rattle.std.specs.Prelude.{ℕ, List}
use Rattle.documents.specs.declared.refusal.Refusal.{Refusal}
use Rattle.documents.specs.declared.refusal.Refusal.TheVariants as refusals

-- The line of a refusal is of this kind; want of memory says nothing.
abbrev pub IsRefusal : (List ℕ → Type 0) → Refusal → Type 0
IsRefusal IsLine (refusals.Line line) = IsLine line
IsRefusal IsLine refusals.OutOfMemory = Unit {0}
