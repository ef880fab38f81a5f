-- What is known of the level of a schema, up to 6, and of the arrays that it reaches.
use Rattle.std.specs.Prelude.{◌≡◌, ℕ, suc, ◌<◌, ◌≤◌, List, true, Some, Contains, slice_get}
use Rattle.json_decimal.specs.Number.{Number}
use Rattle.json_tree.specs.Values.{Json, object, Members}
use Rattle.local_rules.specs.Levels.{HasLevel, ReachesWithin}
use Rattle.local_faults.specs.Machinery.Named.{schema_entries}
use Rattle.local_faults.specs.declared.measures.Measure.{Measure}

-- The level is right as far as this number of steps tells, and 6 stands for each level from there on. An array that
-- is reached in this number of steps is noted.
pub record IsMeasure (ms : Members Number) (n : ℕ) (v : Json) (m : Measure) : Type 0 where
  pub capped : m.level ≤ 6
  pub deep : HasLevel ms m.level v
  pub levels : (j : ℕ) → j ≤ n → j ≤ 6 → HasLevel ms j v → j ≤ m.level
  pub array : m.reaches ≡ true → (j : ℕ) × ReachesWithin ms j v
  pub arrays : (j : ℕ) → j ≤ n → ReachesWithin ms j v → m.reaches ≡ true

-- The same of the parts of a schema: the greatest level, and whether one reaches an array.
pub record ArePartsMeasured (ms : Members Number) (n : ℕ) (parts : List Json) (m : Measure) : Type 0 where
  pub capped : m.level ≤ 6
  pub deep : 0 < m.level → (part : Json) × Contains parts part × HasLevel ms m.level part
  pub levels : (part : Json) → Contains parts part → (j : ℕ) → j ≤ n → j ≤ 6 → HasLevel ms j part → j ≤ m.level
  pub array : m.reaches ≡ true → (part : Json) × (j : ℕ) × Contains parts part × ReachesWithin ms j part
  pub arrays : (part : Json) → Contains parts part → (j : ℕ) → j ≤ n → ReachesWithin ms j part → m.reaches ≡ true

-- Each entry of `schemas` that is an object has its measure.
abbrev pub AreMeasured : Members Number → ℕ → List Measure → Type 0
AreMeasured ms n table = (i : ℕ) (os : Members Number) → slice_get (schema_entries ms) i ≡ Some (object os)
    → (m : Measure) × (slice_get table i ≡ Some m) × IsMeasure ms n (object os) m

-- What is measured by a table is right as far as the table is. An object is right by one step more.
pub record Measures (ms : Members Number) (table : List Measure) (v : Json) (m : Measure) : Type 0 where
  pub any : (n : ℕ) → AreMeasured ms n table → IsMeasure ms n v m
  pub whole : (n : ℕ) (os : Members Number) → AreMeasured ms n table → v ≡ object os → IsMeasure ms (suc n) v m

abbrev pub MeasuresParts : Members Number → List Measure → List Json → Measure → Type 0
MeasuresParts ms table parts m = (n : ℕ) → AreMeasured ms n table → ArePartsMeasured ms n parts m
