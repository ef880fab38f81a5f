-- The files of a shelf in memory.
use Rattle.std.specs.Prelude.{ℕ, List, [], ◌∷◌}
use Rattle.dt_base.specs.declared.mem_shelf.File.{File}

-- Each file as its name and its bytes.
abbrev pub files_of : List File → List (List ℕ × List ℕ)
files_of [] = []
files_of (file ∷ files) = (file.name, file.bytes) ∷ files_of files
