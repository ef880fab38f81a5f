-- The words of a run: a command over documents and their names, a replay, or a graph that is made.
use Rattle.std.specs.Prelude.{◌≡◌, ◌≢◌, ◌≤◌, ℕ, List, [], ◌∷◌, map, length, String, codes, string_bytes}
use Rattle.std.specs.List.{AllByRecursion}
use Rattle.std.specs.Fmt.{decimal}
use Rattle.std.specs.declared.alloc.Global.{Global}
use Rattle.dtdl_cmd.specs.declared.command.Command.{Command}
use Rattle.dtdl_cmd.specs.declared.command.Command.TheVariants as commands

abbrev pub command_word : Command → List ℕ
command_word commands.Check = codes "check"
command_word commands.Canon = codes "canon"

-- A name is not empty and does not begin with `-`.
abbrev pub IsDocumentName : List ℕ → Type 0
IsDocumentName name = (first : ℕ) × (more : List ℕ) × (name ≡ first ∷ more) × (first ≢ 45)

-- There are at most 4,096 names.
abbrev pub AreNames : List (List ℕ) → Type 0
AreNames names = AllByRecursion IsDocumentName names × (length names ≤ 4096)

-- The words are the word of this command and these names.
abbrev pub IsCommand : List (String Global) → Command → List (List ℕ) → Type 0
IsCommand words command names = (map string_bytes words ≡ command_word command ∷ names) × AreNames names

abbrev pub AreCommand : List (String Global) → Type 0
AreCommand words = (command : Command) × (names : List (List ℕ)) × IsCommand words command names

-- The word of a replay, alone.
abbrev pub AreReplay : List (String Global) → Type 0
AreReplay words = map string_bytes words ≡ codes "replay" ∷ []

-- The digits of a number from 1 to the most, without a leading zero or a sign.
abbrev pub IsNumberUpTo : ℕ → List ℕ → ℕ → Type 0
IsNumberUpTo most word n = (word ≡ decimal n) × (1 ≤ n) × (n ≤ most)

-- The word of a graph that is made, and how many rooms it has, from 1 to 20,000.
abbrev pub AreMake : List (String Global) → ℕ → Type 0
AreMake words n = (word : List ℕ) × (map string_bytes words ≡ codes "make" ∷ word ∷ []) × IsNumberUpTo 20000 word n

-- The words are no command that is built.
abbrev pub AreNone : List (String Global) → Type 0
AreNone words = (AreCommand words → ⊥) × (AreReplay words → ⊥) × ((n : ℕ) → AreMake words n → ⊥)
