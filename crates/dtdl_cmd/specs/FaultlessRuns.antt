-- What a source and a shelf that tell what they hold have, and how a run ends where no count of faults rose.
use Rattle.std.specs.Prelude.{◌≡◌, ◌⊎◌, ℕ, List, [], ◌∷◌, map, Option, Some, String}
use Rattle.std.specs.Io.KnownBytes.{Appends, Keeps}
use Rattle.std.specs.declared.alloc.Global.{Global}
use Rattle.dt_base.specs.Faults.{Rose}
use Rattle.dt_base.specs.Files.{file_named}
use Rattle.dtdl_cmd.specs.Words.{IsCommand}
use Rattle.dtdl_cmd.specs.Documents.{ShelfChange, StreamChange}
use Rattle.dtdl_cmd.specs.Runs.{HasReadFault}
use Rattle.dtdl_cmd.specs.declared.command.Command.{Command}
use Rattle.dtdl_cmd.specs.declared.status.Status.{Status}
use Rattle.dtdl_cmd.specs.declared.status.Status.TheVariants as status

-- Whichever has the documents tells that it holds these: without names the source, with names the shelf.
abbrev pub TellsDocuments : StreamChange → ShelfChange → List (List ℕ) → List (Option (List ℕ)) → Type 0
TellsDocuments input shelf [] found = (all : List ℕ) × (input.before ≡ Some all) × (found ≡ Some all ∷ [])
TellsDocuments input shelf (name ∷ names) found = (files : List (List ℕ × List ℕ))
    × (shelf.before ≡ Some files) × (found ≡ map (file_named files) (name ∷ names))

-- No write failed: the count of faults did not rise.
abbrev pub TakesAll : StreamChange → Type 0
TakesAll output = Rose output.faults_before output.faults_after → ⊥

-- The words are this command over documents, of which it is told that these are found, and no read and no write failed.
pub record MeetsNoFault (words : List (String Global)) (command : Command) (input : StreamChange) (shelf : ShelfChange)
    (output : StreamChange) (found : List (Option (List ℕ))) : Type 0 where
  pub names : List (List ℕ)
  pub are : IsCommand words command names
  pub told : TellsDocuments input shelf names found
  pub read : HasReadFault input shelf names → ⊥
  pub taken : TakesAll output

-- The run ended with this answer, written whole; or no memory was found, and nothing was written.
abbrev pub EndsWith : StreamChange → Status → List ℕ → Status → Type 0
EndsWith output answered line s = ((s ≡ answered) × Appends output.before output.after line)
    ⊎ ((s ≡ status.OutOfMemory) × Keeps output.before output.after)
