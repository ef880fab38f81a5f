-- The rows of an index.
use Rattle.std.specs.Prelude.{◌≡◌, ℕ, ◌<◌, List, [], ◌∷◌, Bool, true, false, Option, length, unwrap_or}
use Rattle.std.specs.Option.{is_some}
use Rattle.std.specs.Ordering.{nat_cmp, is_lt}
use Rattle.std.specs.Cmp.Lexicographic.{slice_cmp}
use Rattle.std.specs.List.{filter, find}
use Rattle.std.specs.List.Sorted.{IsStrictlySortedBy}
use Rattle.std.specs.Map.{lookup, keys_of}
use Rattle.std.specs.BTreeMap.{is_at}
use Rattle.dt_base.specs.names.Grammar.{Identifier, id_cmp}
use Rattle.graph_steps.specs.twins.Held.{comes_after}

-- under each model its ids
abbrev pub Rows : Type 0
Rows = List (Identifier × List (List ℕ × Unit {0}))

-- the ids under a model
abbrev pub ids_of : Identifier → Rows → List (List ℕ × Unit {0})
ids_of model rows = unwrap_or (lookup (is_at (id_cmp model)) rows) []

-- whether an id is under a model
abbrev pub holds_id : Identifier → List ℕ → Rows → Bool
holds_id model id rows = is_some (lookup (is_at (slice_cmp nat_cmp id)) (ids_of model rows))

-- whether there are ids
abbrev pub has_ids : List (List ℕ × Unit {0}) → Bool
has_ids [] = false
has_ids (i ∷ is) = true

-- the first row with ids
abbrev pub first_full : Rows → Option (Identifier × List (List ℕ × Unit {0}))
first_full rows = find (λ row. has_ids row.1) rows

-- the first one after a model
abbrev pub full_past : Option Identifier → Rows → Option (Identifier × List (List ℕ × Unit {0}))
full_past after rows = first_full (filter (λ row. comes_after after row.0) rows)

-- there are no ids under a model after this one
abbrev pub HasNoIdsPast : Option Identifier → Rows → Type 0
HasNoIdsPast after rows = (m : Identifier) → comes_after after m ≡ true → ids_of m rows ≡ []

-- the least model after this one under which there are ids, and their number
pub record IsNextRow (after : Option Identifier) (rows : Rows) (model : Identifier) (number : ℕ) : Type 0 where
  pub past : comes_after after model ≡ true
  pub least : (m : Identifier) → comes_after after m ≡ true → is_lt (id_cmp m model) ≡ true → ids_of m rows ≡ []
  pub counted : number ≡ length (ids_of model rows)
  pub some : 0 < number
  pub ordered : IsStrictlySortedBy (slice_cmp nat_cmp) (keys_of (ids_of model rows))
