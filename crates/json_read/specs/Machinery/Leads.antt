-- What the functions that read say of the outcome of reading. No public contract speaks of these words.
use Rattle.std.specs.Prelude.{◌≡◌, ℕ, List, length, Option, Result, Ok, Err, ◌⊎◌}
use Rattle.json_decimal.specs.Number.{Number, zero_number, IsOutOfRange}
use Rattle.json_decimal.specs.Literal.{IsLiteralOf}
use Rattle.json_read.specs.declared.fault.JsonFault.{JsonFault}
use Rattle.json_read.specs.declared.fault.JsonFault.TheVariants as faults
use Rattle.json_tree.specs.Values.{IsInRange, Raw, Json, null, truth, number, text, array, object, Elements, no_elements, element, Members, no_members, member}
use Rattle.json_tree.specs.declared.tree.Tree.{Tree}
use Rattle.json_tree.specs.View.{view}
use Rattle.json_read.specs.Machinery.Ways.{IsFirstRange}
use Rattle.json_read.specs.Machinery.Automaton.{State, Outcome, wrong, cut, reading}

-- The fault is the outcome of the bytes; where memory ran out nothing is said.
abbrev pub IsOutcome : List ℕ → JsonFault → Outcome → Type 0
IsOutcome bytes (faults.Byte at) o = o ≡ wrong at
IsOutcome bytes (faults.Ends at) o = (o ≡ cut) × (at ≡ length bytes)
IsOutcome bytes (faults.Duplicate place) o = ⊥
IsOutcome bytes (faults.Range place) o = ⊥
IsOutcome bytes faults.OutOfMemory o = Unit {0}

-- Where something was read, the outcome is as it says; else the fault is the outcome.
abbrev pub Leads : {X : Type 0} → List ℕ → (X → Outcome → Type 0) → Result X JsonFault → Outcome → Type 0
Leads bytes says (Ok x) o = says x o
Leads bytes says (Err fault) o = IsOutcome bytes fault o

-- The second value is the first with each literal read, and zero where the number is out of range.
abbrev mutual
  pub IsHeldAs : Raw → Json → Type 0
  IsHeldAs null w = w ≡ null
  IsHeldAs (truth b) w = w ≡ truth b
  IsHeldAs (number literal) w = (n : Number) × IsLiteralOf literal n
      × ((IsInRange n × (w ≡ number n)) ⊎ (IsOutOfRange n × (w ≡ number zero_number)))
  IsHeldAs (text bytes) w = w ≡ text bytes
  IsHeldAs (array vs) w = (ws : Elements Number) × ElementsAreHeldAs vs ws × (w ≡ array ws)
  IsHeldAs (object ms) w = (ns : Members Number) × MembersAreHeldAs ms ns × (w ≡ object ns)

  pub ElementsAreHeldAs : Elements (List ℕ) → Elements Number → Type 0
  ElementsAreHeldAs no_elements ws = ws ≡ no_elements
  ElementsAreHeldAs (element v vs) ws = (x : Json) × (xs : Elements Number)
      × IsHeldAs v x × ElementsAreHeldAs vs xs × (ws ≡ element x xs)

  pub MembersAreHeldAs : Members (List ℕ) → Members Number → Type 0
  MembersAreHeldAs no_members ns = ns ≡ no_members
  MembersAreHeldAs (member key v ms) ns = (x : Json) × (xs : Members Number)
      × IsHeldAs v x × MembersAreHeldAs ms xs × (ns ≡ member key x xs)

-- The tree is a value that was read, and the way leads up from its first number that is out of range; the outcome is
-- that of the bytes from a position on, in the state behind that value.
abbrev pub IsRead : List ℕ → (Raw → State) → Tree → Option (List ℕ) → ℕ → Outcome → Type 0
IsRead bytes next tree range at o = (raw : Raw) × IsHeldAs raw (view tree) × IsFirstRange raw range
    × (o ≡ reading bytes (next raw) at)
