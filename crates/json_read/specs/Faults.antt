-- Why bytes are no text of a value: a first wrong byte, an end that comes too soon, or a place in the value.
use Rattle.std.specs.Prelude.{◌≡◌, ℕ, ◌+◌, ◌<◌, ◌⊎◌, ◌↔◌, List, [], ◌∷◌, ◌++◌, length, take, Some, Result, Ok, Err}
use Rattle.json_decimal.specs.Number.{Number, IsOutOfRange}
use Rattle.json_decimal.specs.Literal.{IsLiteralOf}
use Rattle.json_tree.specs.declared.tree.Tree.{Tree}
use Rattle.json_read.specs.declared.fault.JsonFault.{JsonFault}
use Rattle.json_read.specs.declared.fault.JsonFault.TheVariants as faults
use Rattle.json_tree.specs.Values.{Raw, Json, Value, number, object}
use Rattle.json_tree.specs.Places.{member_at, StandsAt, IsBefore}
use Rattle.json_tree.specs.View.{view}
use Rattle.json_tree.specs.Grammar.{IsText, Spells}

-- Some text begins with the bytes.
abbrev pub BeginsText : List ℕ → Type 0
BeginsText bytes = (more : List ℕ) × (raw : Raw) × IsText (bytes ++ more) raw

-- The least `at` such that no text begins with the first `at + 1` bytes.
pub record IsFirstWrongByte (bytes : List ℕ) (at : ℕ) : Type 0 where
  pub within : at < length bytes
  pub dead : BeginsText (take (at + 1) bytes) → ⊥
  pub least : (n : ℕ) → n < at → BeginsText (take (n + 1) bytes)

-- A text begins with the bytes, and they are none themselves.
pub record IsCutShortText (bytes : List ℕ) : Type 0 where
  pub viable : BeginsText bytes
  pub none : (raw : Raw) → IsText bytes raw → ⊥

-- The member at this position has a key that an earlier one has.
abbrev pub RepeatsKey : {N : Type 0} → Value N → ℕ → Type 0
RepeatsKey {N = N} (object ms) i = (key : List ℕ) × (v w : Value N) × (j : ℕ)
    × (member_at ms i ≡ Some (key, v)) × (j < i) × (member_at ms j ≡ Some (key, w))
RepeatsKey other i = ⊥

-- At the place stands the value of a member with a key that an earlier member of the same object has.
abbrev pub IsDuplicateAt : {N : Type 0} → Value N → List ℕ → Type 0
IsDuplicateAt {N = N} whole place = (parent : List ℕ) × (i : ℕ) × (around : Value N)
    × (place ≡ parent ++ i ∷ []) × StandsAt whole parent around × RepeatsKey around i

-- At the place stands a number that is out of range.
abbrev pub IsRangeAt : Raw → List ℕ → Type 0
IsRangeAt raw place = (literal : List ℕ) × (n : Number)
    × StandsAt raw place (number literal) × IsLiteralOf literal n × IsOutOfRange n

-- No place before this one has a fault.
abbrev pub IsFirstFaulty : Raw → List ℕ → Type 0
IsFirstFaulty raw place = (before : List ℕ) → IsBefore before place → (IsDuplicateAt raw before ⊎ IsRangeAt raw before) → ⊥

-- What each fault says of the bytes. Where memory ran out nothing is said of them.
abbrev pub IsFault : List ℕ → JsonFault → Type 0
IsFault bytes (faults.Byte at) = IsFirstWrongByte bytes at
IsFault bytes (faults.Ends at) = IsCutShortText bytes × (at ≡ length bytes)
IsFault bytes (faults.Duplicate place) = (raw : Raw)
    × IsText bytes raw × IsDuplicateAt raw place.steps × IsFirstFaulty raw place.steps
IsFault bytes (faults.Range place) = (raw : Raw)
    × IsText bytes raw × IsRangeAt raw place.steps × (IsDuplicateAt raw place.steps → ⊥) × IsFirstFaulty raw place.steps
IsFault bytes faults.OutOfMemory = Unit {0}

-- The answer's tree is the one value that the bytes spell, and nothing else; or the answer's fault is theirs.
abbrev pub ReadsJson : List ℕ → Result Tree JsonFault → Type 0
ReadsJson bytes (Ok tree) = (value : Json) → Spells bytes value ↔ (view tree ≡ value)
ReadsJson bytes (Err fault) = IsFault bytes fault
