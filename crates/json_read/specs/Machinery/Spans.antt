-- What the functions say that go over the parts of a number or a text. No public contract
-- speaks of these words.
use Rattle.std.specs.Prelude.{◌≡◌, ℕ, zero, suc, ◌+◌, ◌*◌, ◌<◌, ◌≤◌, ◌⊎◌, List, [], ◌∷◌, ◌++◌, length, true, false, ◌==◌, if◌then◌else◌, Option, Some, None, Result, Ok, Err}
use Rattle.std.specs.List.{slice_range, slice_index}
use Rattle.std.specs.Str.{IsUtf8}
use Rattle.json_read.specs.declared.fault.JsonFault.{JsonFault}
use Rattle.json_tree.specs.Grammar.{AreInRanges, IsNumber}
use Rattle.json_read.specs.Machinery.Remains.{IsNumberRest}
use Rattle.json_read.specs.Machinery.Automaton.{Frame, Use, State, in_text, in_character, in_number, Part, value, behind_minus, behind_point, behind_mark, in_power, at_digit, number_step, may_end, at_mark, Sequence, in_sequence, Point, Move, dead, on, at_hex, point_step, sequence_step, moved, step, end, Outcome, reading}
use Rattle.json_read.specs.Machinery.Leads.{IsOutcome}

-- The fault is the outcome in each state that no byte here follows.
abbrev pub Faults : List ℕ → ℕ → JsonFault → Type 0
Faults bytes at fault = (s : State) → (at < length bytes → step s (slice_index bytes at) ≡ None)
    → (length bytes ≤ at → end s ≡ None) → IsOutcome bytes fault (reading bytes s at)

-- ---- numbers
-- The bytes lead from one part of a number to another.
abbrev pub NumberPasses : Part → List ℕ → Part → Type 0
NumberPasses from [] to = from ≡ to
NumberPasses from (b ∷ bytes) to = (next : Part) × (number_step from b ≡ Some next) × NumberPasses next bytes to

-- The bytes between two positions do so.
pub record NumberReaches (bytes : List ℕ) (from : Part) (at : ℕ) (to : Part) (stop : ℕ) : Type 0 where
  pub forward : at ≤ stop
  pub within : stop ≤ length bytes
  pub passes : NumberPasses from (slice_range bytes at stop) to

-- The fault is the outcome of a number of which this part comes next.
abbrev pub Fails : List ℕ → Part → ℕ → JsonFault → Type 0
Fails bytes part at fault = (content : List ℕ) (d : ℕ) (k : List Frame)
    → IsOutcome bytes fault (reading bytes (in_number part content d k) at)

-- What may follow an integer behind which so many digits may still come.
abbrev pub point_or_mark : ℕ → ℕ → Option Part
point_or_mark zero b = at_mark b
point_or_mark (suc n) b = if b == 46 then Some (behind_point n) else at_mark b

-- The number may end, or go on with this byte only as told.
abbrev pub MayEndOrGoOn : Part → (ℕ → Option Part) → ℕ → Type 0
MayEndOrGoOn part next b = (may_end part ≡ true) × (number_step part b ≡ next b)

-- These many digits lead down through the parts.
abbrev pub CountsDown : (ℕ → Part) → Type 0
CountsDown part = (n b : ℕ) → 48 ≤ b → b ≤ 57 → number_step (part (suc n)) b ≡ Some (part n)

-- A number goes on from a part to one that this is said of, or has this fault.
abbrev pub Continues : List ℕ → Part → ℕ → (Part → ℕ → Type 0) → Result ℕ JsonFault → Type 0
Continues bytes from at says (Ok stop) = (to : Part) × NumberReaches bytes from at to stop × says to (slice_index bytes stop)
Continues bytes from at says (Err fault) = Fails bytes from at fault

-- no byte follows
abbrev pub none_follows : ℕ → Option Part
none_follows b = None

-- Behind a minus, or before a digit: a value that begins here is a number of which this part comes next.
pub record IsMinusEnd (bytes : List ℕ) (at stop : ℕ) : Type 0 where
  pub forward : at ≤ stop
  pub within : stop ≤ length bytes
  pub number : (rest : List ℕ) → IsNumberRest behind_minus rest → IsNumber (slice_range bytes at stop ++ rest)
  pub reads : (d : ℕ) (k : List Frame) → reading bytes (value d k) at
      ≡ reading bytes (in_number behind_minus (slice_range bytes at stop) d k) stop

-- Behind an exponent's mark and its sign, if any: a digit must come.
abbrev pub IsSignEnd : List ℕ → ℕ → ℕ → Type 0
IsSignEnd bytes at stop = (to : Part) × NumberReaches bytes behind_mark at to stop × (may_end to ≡ false)
    × (number_step to (slice_index bytes stop) ≡ at_digit (slice_index bytes stop) (in_power 2) None)

-- An integer, of which no more than a minus was read before, ends so, or it has this fault.
abbrev pub IsIntegerEnd : List ℕ → ℕ → Result (ℕ × ℕ) JsonFault → Type 0
IsIntegerEnd bytes at (Ok (stop, left)) = (to : Part) × NumberReaches bytes behind_minus at to stop
    × MayEndOrGoOn to (point_or_mark left) (slice_index bytes stop)
IsIntegerEnd bytes at (Err fault) = Fails bytes behind_minus at fault

-- ---- texts
-- The bytes between two positions stand for themselves in a text.
pub record Copies (bytes : List ℕ) (at stop : ℕ) : Type 0 where
  pub forward : at ≤ stop
  pub within : stop ≤ length bytes
  pub utf8 : IsUtf8 (slice_range bytes at stop)
  pub reads : (u : Use) (content : List ℕ) (d : ℕ) (k : List Frame)
      → reading bytes (in_text u content d k) at ≡ reading bytes (in_text u (content ++ slice_range bytes at stop) d k) stop

-- They do so, or the text has this fault.
abbrev pub CopiesTo : List ℕ → ℕ → Result ℕ JsonFault → Type 0
CopiesTo bytes at (Ok stop) = Copies bytes at stop
CopiesTo bytes at (Err fault) = (u : Use) (content : List ℕ) (d : ℕ) (k : List Frame)
    → IsOutcome bytes fault (reading bytes (in_text u content d k) at)

-- A byte that stands for no character by itself, and begins none of several bytes.
abbrev pub StopsRun : ℕ → Type 0
StopsRun b = (b < 32) ⊎ (b ≡ 34) ⊎ (b ≡ 92)

-- The byte at a position lies in a range, or this is the fault where one must stand.
abbrev pub IsByteWithin : List ℕ → ℕ → ℕ → ℕ → Result ℕ JsonFault → Type 0
IsByteWithin bytes at low high (Ok stop) = (stop ≡ at + 1) × (at < length bytes)
    × (low ≤ slice_index bytes at) × (slice_index bytes at ≤ high)
IsByteWithin bytes at low high (Err fault) = Faults bytes at fault
    × (at < length bytes → (slice_index bytes at < low) ⊎ (high < slice_index bytes at))

-- Bytes in these ranges stand here and end a character, or it has this fault.
abbrev pub EndsSequence : List ℕ → Sequence → List (ℕ × ℕ) → ℕ → Result ℕ JsonFault → Type 0
EndsSequence bytes s ranges at (Ok stop) = (at ≤ stop) × AreInRanges ranges (slice_range bytes at stop)
    × ((u : Use) (content : List ℕ) (d : ℕ) (k : List Frame) → reading bytes (in_character (in_sequence s) u content d k) at
    ≡ reading bytes (in_text u (content ++ slice_range bytes at stop) d k) stop)
EndsSequence bytes s ranges at (Err fault) = (u : Use) (content : List ℕ) (d : ℕ) (k : List Frame)
    → IsOutcome bytes fault (reading bytes (in_character (in_sequence s) u content d k) at)

-- A byte in the range leads on so, and no other does.
abbrev pub Narrows : Sequence → ℕ → ℕ → (ℕ → Move) → Type 0
Narrows s low high next = ((b : ℕ) → low ≤ b → b ≤ high → sequence_step s b ≡ next b)
    × ((b : ℕ) → (b < low) ⊎ (high < b) → sequence_step s b ≡ dead)

-- ---- escapes
-- A hexadecimal digit of this value stands here, or the fault is the outcome wherever one must stand.
abbrev pub IsHexAt : List ℕ → ℕ → Result ℕ JsonFault → Type 0
IsHexAt bytes at (Ok x) = (at < length bytes) × (x ≤ 15) × ((next : ℕ → Move) → at_hex (slice_index bytes at) next ≡ next x)
IsHexAt bytes at (Err fault) = Faults bytes at fault
    × (at < length bytes → (next : ℕ → Move) → at_hex (slice_index bytes at) next ≡ dead)

-- Where a character leads that goes on so.
abbrev pub AfterMove : List ℕ → Use → List ℕ → ℕ → List Frame → Move → ℕ → Outcome → Type 0
AfterMove bytes u content d k m at o = (t : State) → moved u content d k m ≡ Some t → o ≡ reading bytes t at

-- The last two digits of a unit are read in two points, and its value leads on so.
abbrev pub ReadsUnit : Point → ℕ → (ℕ → Point) → (ℕ → Move) → Type 0
ReadsUnit p before point last = ((b : ℕ) → point_step p b ≡ at_hex b (λ x. on (point (before * 16 + x))))
    × ((m b : ℕ) → point_step (point m) b ≡ at_hex b (λ x. last (m * 16 + x)))
