-- The schemas that an interface names, by their positions in its `schemas`.
use Rattle.std.specs.Prelude.{◌≡◌, ℕ, List, None, codes}
use Rattle.std.specs.List.{position}
use Rattle.std.specs.Borrow.{Bor}
use Rattle.std.specs.Ordering.{nat_cmp}
use Rattle.std.specs.Cmp.Lexicographic.{slice_cmp}
use Rattle.std.specs.BTreeMap.{BTreeMap, get_by}
use Rattle.json_decimal.specs.Number.{Number}
use Rattle.json_tree.specs.Values.{Json, object, Members}
use Rattle.local_rules.specs.Levels.{IsPrimitiveName, entries_at, has_id, schema_named}

-- The entries of `schemas`.
abbrev pub schema_entries : Members Number → List Json
schema_entries ms = entries_at (codes "schemas") (object ms)

-- Each `@id` leads to the first entry that has it.
abbrev pub IsIndex : List Json → BTreeMap (Bor (List ℕ)) ℕ → Type 0
IsIndex vs index = (q : List ℕ) → get_by (λ k. slice_cmp nat_cmp q k.now) index ≡ position (has_id q) vs

-- A text is neither a primitive's name nor such an `@id`.
abbrev pub IsUnknownName : Members Number → List ℕ → Type 0
IsUnknownName ms bytes = (IsPrimitiveName bytes → ⊥) × (schema_named ms bytes ≡ None)
