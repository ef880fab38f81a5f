-- How the fields of the twins hang together.
use Rattle.std.specs.Prelude.{◌≡◌, ℕ, List, Bool, false, Option, Some, None, length}
use Rattle.std.specs.Option.{option_map}
use Rattle.std.specs.Ordering.{nat_cmp}
use Rattle.std.specs.Cmp.Lexicographic.{slice_cmp}
use Rattle.std.specs.List.{filter_map}
use Rattle.std.specs.List.Sorted.{IsStrictlySortedBy}
use Rattle.std.specs.Map.{lookup, keys_of, values_of}
use Rattle.std.specs.BTreeMap.{is_at}
use Rattle.dt_base.specs.names.Grammar.{Identifier}
use Rattle.twin_value.specs.declared.twin.Twin.{Twin}
use Rattle.graph_steps.specs.declared.twins.held.Held.{Held}
use Rattle.graph_steps.specs.twins.Held.{twins_by_id, is_twin_of, total_bytes}
use Rattle.graph_steps.specs.twins.Machinery.Rows.{Rows, holds_id}

-- what stands under an id
abbrev pub held_under : List (List ℕ × Held) → List ℕ → Option Held
held_under entries id = lookup (is_at (slice_cmp nat_cmp id)) entries

-- the twins under ids
abbrev pub twins_under : List (List ℕ × Held) → List (List ℕ × Unit {0}) → List Twin
twins_under entries ids = filter_map (λ e. option_map (λ h. h.twin) (held_under entries e.0)) ids

-- there is one, and it is of this model
abbrev pub is_there_of : Identifier → Option Held → Bool
is_there_of model None = false
is_there_of model (Some h) = is_twin_of model h

-- Each twin stands under its own id, and this under its model alone. The number and the sum are those of the twins.
pub record KeepsTwins (entries : List (List ℕ × Held)) (rows : Rows) (len bytes : ℕ) : Type 0 where
  pub sorted : IsStrictlySortedBy (slice_cmp nat_cmp) (keys_of entries)
  pub own : entries ≡ twins_by_id (values_of entries)
  pub indexed : (model : Identifier) (id : List ℕ) → holds_id model id rows ≡ is_there_of model (held_under entries id)
  pub counted : len ≡ length entries
  pub summed : bytes ≡ total_bytes (values_of entries)
