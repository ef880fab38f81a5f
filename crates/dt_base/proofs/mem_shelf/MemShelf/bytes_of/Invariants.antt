use Rattle.std.proofs.Common.{◌≡◌, drop}
use Rattle.dt_base.specs.Files.{file_named}
use Rattle.dt_base.specs.Shelves.{files_of}
use Rattle.dt_base.proofs.mem_shelf.MemShelf.bytes_of.Given as goal

-- the name is still looked for in the files that follow
abbrev pub invariant-files : goal.invariant-files
invariant-files l = file_named (files_of l.self.files) l.name ≡ file_named (files_of (drop l.file-index l.self.files)) l.name
