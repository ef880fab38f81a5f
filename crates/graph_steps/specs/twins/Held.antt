-- Twins as a list in the order of the bytes of their ids, each with a size.
use Rattle.std.specs.Prelude.{◌≡◌, ℕ, ◌<◌, List, Bool, true, false, Option, Some, None, map, length, slice_get, bytes_eq}
use Rattle.std.specs.Option.{option_map}
use Rattle.std.specs.Ordering.{nat_cmp, is_eq, is_lt}
use Rattle.std.specs.Cmp.Lexicographic.{slice_cmp}
use Rattle.std.specs.List.{filter, find, sum_by, AllByRecursion}
use Rattle.std.specs.List.Sorted.{IsStrictlySortedBy}
use Rattle.std.specs.Map.{remove_entry, values_of}
use Rattle.std.specs.BTreeMap.{is_at, insert_entry}
use Rattle.dt_base.specs.names.Grammar.{Identifier, id_cmp}
use Rattle.twin_value.specs.declared.twin.Twin.{Twin}
use Rattle.graph_steps.specs.declared.twins.held.Held.{Held}

abbrev pub id_of : Held → List ℕ
id_of h = h.twin.id

-- each under its id
abbrev pub twins_by_id : List Held → List (List ℕ × Held)
twins_by_id hs = map (λ h. (id_of h, h)) hs

-- the ids ascend, so that no two are equal
abbrev pub TwinsInOrder : List Held → Type 0
TwinsInOrder hs = IsStrictlySortedBy (slice_cmp nat_cmp) (map id_of hs)

-- the one with this id
abbrev pub held_at : List ℕ → List Held → Option Held
held_at id hs = find (λ h. bytes_eq (id_of h) id) hs

abbrev pub held_twin_at : List ℕ → List Held → Option Twin
held_twin_at id hs = option_map (λ h. h.twin) (held_at id hs)

-- the id is past this one; past none each is
abbrev pub is_held_past : Option (List ℕ) → Held → Bool
is_held_past None h = true
is_held_past (Some id) h = is_lt (slice_cmp nat_cmp id (id_of h))

-- the first twin past an id, or the first of all
abbrev pub next_held_past : Option (List ℕ) → List Held → Option Twin
next_held_past id hs = option_map (λ h. h.twin) (slice_get (filter (is_held_past id) hs) 0)

-- with one at its place, or in the place of the one with its id
abbrev pub with_held : Held → List Held → List Held
with_held h hs = values_of (insert_entry (slice_cmp nat_cmp) (twins_by_id hs) (id_of h) h)

-- without the one with this id
abbrev pub without_held : List ℕ → List Held → List Held
without_held id hs = values_of (remove_entry (is_at (slice_cmp nat_cmp id)) (twins_by_id hs))

-- the twin is of this model
abbrev pub is_twin_of : Identifier → Held → Bool
is_twin_of model h = is_eq (id_cmp model h.twin.model)

-- the twins of a model
abbrev pub of_model : Identifier → List Held → List Twin
of_model model hs = map (λ h. h.twin) (filter (is_twin_of model) hs)

-- a model comes after this one; after none each does
abbrev pub comes_after : Option Identifier → Identifier → Bool
comes_after None m = true
comes_after (Some model) m = is_lt (id_cmp model m)

-- the twin's model does
abbrev pub model_past : Option Identifier → Held → Bool
model_past after h = comes_after after h.twin.model

-- no twin's model does
abbrev pub HasNoModelPast : Option Identifier → List Held → Type 0
HasNoModelPast after hs = AllByRecursion (λ h. model_past after h ≡ false) hs

-- the least model after this one that twins are of, and how many are
pub record IsNextModel (after : Option Identifier) (hs : List Held) (model : Identifier) (number : ℕ) : Type 0 where
  pub past : comes_after after model ≡ true
  pub least : AllByRecursion (λ h. model_past after h ≡ true → is_lt (id_cmp h.twin.model model) ≡ false) hs
  pub counted : number ≡ length (of_model model hs)
  pub some : 0 < number

-- the sum of the sizes
abbrev pub total_bytes : List Held → ℕ
total_bytes hs = sum_by (λ h. h.bytes) hs
