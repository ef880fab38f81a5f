-- Named files as a finite map, and what a fetch of one of them answers.
use Rattle.std.specs.Prelude.{◌≡◌, ℕ, ◌<◌, ◌≤◌, List, [], ◌∷◌, length, Option, Some, None, if◌then◌else◌, bytes_eq}
use Rattle.dt_base.specs.declared.shelf.Fetched.{Fetched}
use Rattle.dt_base.specs.declared.shelf.Fetched.TheVariants.{Missing, TooLong, Bytes}

-- The bytes under a name, where the map has it. Of equal names the first counts.
abbrev pub file_named : List (List ℕ × List ℕ) → List ℕ → Option (List ℕ)
file_named [] name = None
file_named (file ∷ files) name = if bytes_eq file.0 name then Some file.1 else file_named files name

-- What a fetch answers: by the map, where it is told, and within the limit in any case.
abbrev pub Fetches : Option (List (List ℕ × List ℕ)) → List ℕ → ℕ → Fetched → Type 0
Fetches None name limit Missing = Unit {0}
Fetches None name limit TooLong = Unit {0}
Fetches None name limit (Bytes bytes) = length bytes ≤ limit
Fetches (Some files) name limit Missing = file_named files name ≡ None
Fetches (Some files) name limit TooLong = (bytes : List ℕ) × (file_named files name ≡ Some bytes) × (limit < length bytes)
Fetches (Some files) name limit (Bytes bytes) = (file_named files name ≡ Some bytes) × (length bytes ≤ limit)
