use Rattle.std.proofs.Common.{map, take}
use Rattle.std.specs.Prelude.{string_bytes}
use Rattle.std.specs.List.{AllByRecursion}
use Rattle.dtdl_cmd.specs.Words.{IsDocumentName}
use Rattle.dtdl_cmd.proofs.command.are_names.Given as goal

-- the words so far are names
abbrev pub invariant-words : goal.invariant-words
invariant-words l = AllByRecursion IsDocumentName (map string_bytes (take l.word-index l.words))
