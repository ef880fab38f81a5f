-- Where and why a text is refused.
use Rattle.std.specs.Prelude.{◌≡◌, ℕ, ◌+◌, ◌<◌, ◌≤◌, List, [], ◌++◌, length, take, IsTrue, Contains, ⊤}
use Rattle.dt_base.specs.declared.names.fault.NameFault.{NameFault}
use Rattle.dt_base.specs.declared.names.fault.NameFault.TheVariants as fault
use Rattle.dt_base.specs.names.Grammar.{NameText, IsDtmi, is_reserved}

-- some text of the grammar begins with these bytes
abbrev pub IsViable : (List ℕ → Type 0) → List ℕ → Type 0
IsViable Text bytes = (more : List ℕ) × Text (bytes ++ more)

-- the byte at `at` is the least such that no text of the grammar begins with the bytes up to and with it
pub record IsFirstWrong (Text : List ℕ → Type 0) (bytes : List ℕ) (at : ℕ) : Type 0 where
  pub within : at < length bytes
  pub dead : IsViable Text (take (at + 1) bytes) → ⊥
  pub least : (n : ℕ) → n < at → IsViable Text (take (n + 1) bytes)

-- a text of the grammar begins with these bytes, and they are none themselves
pub record IsCutShort (Text : List ℕ → Type 0) (bytes : List ℕ) : Type 0 where
  pub viable : IsViable Text bytes
  pub none : Text bytes → ⊥

-- the texts for which reading a name answers each fault; want of memory may come at any
abbrev pub RefusesName : List ℕ → NameFault → Type 0
RefusesName bytes fault.Empty = bytes ≡ []
RefusesName bytes fault.TooLong = 64 < length bytes
RefusesName bytes (fault.BadByte at) = (length bytes ≤ 64) × IsFirstWrong NameText bytes at
RefusesName bytes fault.Ends = (0 < length bytes) × IsCutShort NameText bytes
RefusesName bytes fault.BadVersion = ⊥
RefusesName bytes fault.Reserved = ⊥
RefusesName bytes fault.OutOfMemory = ⊤

-- the same for a DTMI, where `;` is 59
abbrev pub RefusesDtmi : List ℕ → NameFault → Type 0
RefusesDtmi bytes fault.Empty = bytes ≡ []
RefusesDtmi bytes fault.TooLong = 2048 < length bytes
RefusesDtmi bytes (fault.BadByte at) =
    (length bytes ≤ 2048) × IsFirstWrong IsDtmi bytes at × (Contains (take at bytes) 59 → ⊥)
RefusesDtmi bytes fault.Ends = (0 < length bytes) × IsCutShort IsDtmi bytes
RefusesDtmi bytes fault.BadVersion =
    (length bytes ≤ 2048) × ((at : ℕ) × IsFirstWrong IsDtmi bytes at × Contains (take at bytes) 59)
RefusesDtmi bytes fault.Reserved = IsDtmi bytes × IsTrue (is_reserved bytes)
RefusesDtmi bytes fault.OutOfMemory = ⊤
