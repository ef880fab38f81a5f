-- A table as one list of entries, whose keys are pairs, and as a list of rows.
use Rattle.std.specs.Prelude.{ℕ, List, [], ◌∷◌, ◌++◌, map, Option}
use Rattle.std.specs.Option.{option_map}
use Rattle.std.specs.declared.cmp.Ordering.{Ordering}
use Rattle.std.specs.Ordering.{nat_cmp, ordering_then, is_eq, is_lt}
use Rattle.std.specs.List.{filter, find}
use Rattle.std.specs.Cmp.Lexicographic.{slice_cmp}

-- pairs by their texts, and then by their keys
abbrev pub pair_cmp : {K : Type 0} → (K → K → Ordering) → List ℕ × K → List ℕ × K → Ordering
pair_cmp cmp x y = ordering_then (slice_cmp nat_cmp x.0 y.0) (cmp x.1 y.1)

-- the entries under a text, each with its whole key
abbrev pub row_at : {K V : Type 0} → List ℕ → List ((List ℕ × K) × V) → List ((List ℕ × K) × V)
row_at at es = filter (λ e. is_eq (slice_cmp nat_cmp at e.0.0)) es

-- the entries under a text, each with its further key
abbrev pub row_of : {K V : Type 0} → List ℕ → List ((List ℕ × K) × V) → List (K × V)
row_of at es = map (λ e. (e.0.1, e.1)) (row_at at es)

-- the first entry of a row that is past a key, with its whole key
abbrev pub next_in : {K V : Type 0} → (K → K → Ordering) → List ℕ → K → List (K × V) → Option ((List ℕ × K) × V)
next_in cmp at key row = option_map (λ e. ((at, e.0), e.1)) (find (λ e. is_lt (cmp key e.0)) row)

-- ---- a table's fields: one row of entries under each text

-- the entries of the row under a text
abbrev pub under : {K V : Type 0} → List ℕ → List (K × V) → List ((List ℕ × K) × V)
under at [] = []
under at (e ∷ es) = ((at, e.0), e.1) ∷ under at es

-- the entries of all rows, one row after another
abbrev pub flat : {K V : Type 0} → List (List ℕ × List (K × V)) → List ((List ℕ × K) × V)
flat [] = []
flat (r ∷ rs) = under r.0 r.1 ++ flat rs
