-- How identifiers stand to the bytes with which those of one path begin.
use Rattle.std.specs.Prelude.{◌≡◌, ℕ, List, [], ◌∷◌, ◌++◌, length, take, Bool, true, false, codes}
use Rattle.std.specs.List.{join_with_byte}
use Rattle.std.specs.List.Sorted.{IsPartitionPoint}
use Rattle.std.specs.Ordering.{nat_cmp, is_lt, is_eq, is_le}
use Rattle.std.specs.Cmp.Lexicographic.{slice_cmp}
use Rattle.std.specs.declared.cmp.Ordering.{Ordering}
use Rattle.dt_base.specs.names.Grammar.{Identifier, dtmi_text}

-- `dtmi:`, the segments with `:` between them, and `;`
abbrev pub path_start : Identifier → List ℕ
path_start i = codes "dtmi:" ++ (join_with_byte 58 i.segments ++ 59 ∷ [])

-- the identifier, cut to as many bytes, beside these
abbrev pub start_cmp : List ℕ → Identifier → Ordering
start_cmp start id = slice_cmp nat_cmp (take (length start) (dtmi_text id)) start

-- it begins with these bytes
abbrev pub begins_so : List ℕ → Identifier → Bool
begins_so start id = is_eq (start_cmp start id)

-- it is before all that begin with these bytes, or it is not past them
abbrev pub is_before_start : List ℕ → Identifier → Bool
is_before_start start id = is_lt (start_cmp start id)

abbrev pub is_upto : List ℕ → Identifier → Bool
is_upto start id = is_le (start_cmp start id)

-- the identifiers before this place pass the test, and no other does
abbrev pub Parts : (Identifier → Bool) → List Identifier → ℕ → Type 0
Parts test ids at = IsPartitionPoint (λ id. test id ≡ true) (λ id. test id ≡ false) ids at
