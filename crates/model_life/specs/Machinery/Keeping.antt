-- What is kept beside the set of interfaces: a record for each, who uses whom, and running sums.
use Rattle.std.specs.Prelude.{◌≡◌, ℕ, ◌+◌, ◌-◌, ◌^◌, ◌≤◌, min, List, length, Bool, true, false, cond, Option, Some, None, map}
use Rattle.std.specs.Option.{IsSomeAnd}
use Rattle.std.specs.List.{AllByRecursion, sum_by}
use Rattle.std.specs.Map.{lookup}
use Rattle.std.specs.BTreeMap.{is_at}
use Rattle.ordered_table.specs.Rows.{pair_cmp}
use Rattle.dt_base.specs.names.Grammar.{Identifier, dtmi_text, id_cmp}
use Rattle.dtdl_terms.specs.Distinct.{HasDeclaration}
use Rattle.dtdl_terms.specs.Sets.{InOrder, interface_at}
use Rattle.dtdl_terms.specs.declared.interface.Interface.{Interface}
use Rattle.extend_resolve.specs.Breaches.{BreaksNoRule}
use Rattle.model_life.specs.resolution.Machinery.Reaching.{ancestors_in, parts_in}
use Rattle.model_life.specs.Models.{Model, model_of, uses}
use Rattle.model_life.specs.Sums.{text_bytes, bytes_of}
use Rattle.model_life.specs.declared.records.Record.{Record}

-- ---- records
abbrev pub record_at : Identifier → List (Identifier × Record) → Option Record
record_at id es = lookup (is_at (id_cmp id)) es

abbrev pub is_marked : Option Record → Bool
is_marked None = false
is_marked (Some r) = r.decommissioned

-- the models: each interface with the mark of its record
abbrev pub record_mark_at : Identifier → List (Identifier × Record) → Bool
record_mark_at id es = is_marked (record_at id es)

abbrev pub models_of : List Interface → List (Identifier × Record) → List Model
models_of set es = map (λ i. model_of i (record_mark_at i.id es)) set

-- the record of an interface that comes
abbrev pub fresh_record : Interface → Record
fresh_record i = record { text = dtmi_text i.id; decommissioned = false; bytes = text_bytes i }

pub record IsRecord (i : Interface) (r : Record) : Type 0 where
  pub text : r.text ≡ dtmi_text i.id
  pub bytes : r.bytes ≡ text_bytes i

abbrev pub RecordOf : Option Interface → Option Record → Type 0
RecordOf None None = Unit {0}
RecordOf None (Some r) = ⊥
RecordOf (Some i) None = ⊥
RecordOf (Some i) (Some r) = IsRecord i r

-- the text that is kept of an identifier
abbrev pub HasText : List (Identifier × Record) → Identifier → Type 0
HasText es id = IsSomeAnd (record_at id es) (λ r. r.text ≡ dtmi_text id)

-- ---- who uses whom
abbrev pub Users : Type 0
Users = List ((List ℕ × Identifier) × Unit {0})

abbrev pub user_at : Identifier → Identifier → Users → Option (Unit {0})
user_at used user us = lookup (is_at (pair_cmp id_cmp (dtmi_text used, user))) us

abbrev pub use_of : Identifier → Option Interface → Option (Unit {0})
use_of used None = None
use_of used (Some i) = cond (uses used i) (Some tt) None

-- Each identifier that an interface of the set uses has its text.
abbrev pub HaveTexts : List Interface → List (Identifier × Record) → Type 0
HaveTexts set es = (i : Interface) (t : Identifier) → interface_at i.id set ≡ Some i → uses t i ≡ true → HasText es t

-- No more is there than interfaces of the set use.
abbrev pub UsersAreWithin : List Interface → Users → Type 0
UsersAreWithin set us = (used user : Identifier) → use_of used (interface_at user set) ≡ None → user_at used user us ≡ None

-- ---- what agrees with the set
abbrev pub AreRecorded : List Interface → List (Identifier × Record) → Type 0
AreRecorded set es = (id : Identifier) → RecordOf (interface_at id set) (record_at id es)

pub record RecordsFit (set : List Interface) (es : List (Identifier × Record)) (us : Users) : Type 0 where
  pub records : AreRecorded set es
  pub users : (used user : Identifier) → user_at used user us ≡ use_of used (interface_at user set)

-- ---- sums
-- a sum as a number of 64 bits holds it
abbrev pub capped : ℕ → ℕ
capped n = min n (2 ^ 64 - 1)

abbrev pub bytes_at : Option Record → ℕ
bytes_at None = 0
bytes_at (Some r) = r.bytes

abbrev pub recorded : List (Identifier × Record) → List Identifier → ℕ
recorded es ids = sum_by (λ id. bytes_at (record_at id es)) ids

-- what the texts of an interface and of all its ancestors take, and with it those of each interface that a component names
-- and of its ancestors
abbrev pub line_of : List Interface → Interface → ℕ
line_of set i = bytes_of set (map (λ a. a.id) (ancestors_in set i))

abbrev pub share_of : List Interface → Interface → ℕ
share_of set i = line_of set i + sum_by (line_of set) (parts_in set i)

-- the same of what is found
abbrev pub line_in : List Interface → Option Interface → ℕ
line_in set None = 0
line_in set (Some i) = line_of set i

abbrev pub share_in : List Interface → Option Interface → ℕ
share_in set None = 0
share_in set (Some i) = share_of set i

abbrev pub share_at : List Interface → Identifier → ℕ
share_at set id = share_in set (interface_at id set)

-- ---- what is written of these
abbrev pub Written : Type 0
Written = List (Identifier × ℕ)

abbrev pub record_number : Option ℕ → ℕ
record_number None = 0
record_number (Some n) = n

abbrev pub written_at : Identifier → Written → ℕ
written_at id ws = record_number (lookup (is_at (id_cmp id)) ws)

abbrev pub AreWritten : List Interface → Written → Type 0
AreWritten set ws = (id : Identifier) → written_at id ws ≡ share_at set id

-- ---- what models keep
pub record IsKept (set : List Interface) (es : List (Identifier × Record)) (us : Users) (ws : Written) (bytes resolved : ℕ) : Type 0 where
  pub rules : BreaksNoRule set
  pub ordered : InOrder set
  pub declared : AllByRecursion HasDeclaration set
  pub fits : RecordsFit set es us
  pub written : AreWritten set ws
  pub sum : bytes ≡ sum_by text_bytes set
  pub total : resolved ≡ sum_by (share_of set) set
  pub few : length set ≤ 10000
  pub small : bytes ≤ 67108864
  pub bounded : resolved ≤ 268435456
