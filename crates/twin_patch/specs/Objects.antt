-- Objects as finite maps from keys to values: a member is looked up, set and taken out by its key, and the members stand
-- in the order of the bytes of their keys.
use Rattle.std.specs.Prelude.{ℕ, List, Option, Some, None, if◌then◌else◌, bytes_eq}
use Rattle.std.specs.Ordering.{match_ordering, nat_cmp}
use Rattle.std.specs.Cmp.Lexicographic.{slice_cmp}
use Rattle.json_decimal.specs.Number.{Number}
use Rattle.json_tree.specs.Values.{Json, null, truth, number, text, array, object, Elements, no_elements, element, Members, no_members, member}

-- The value under a key, of equal keys the first.
abbrev pub value_under : List ℕ → Members Number → Option Json
value_under key no_members = None
value_under key (member k v ms) = if bytes_eq k key then Some v else value_under key ms

-- The members with this value under the key, at its place in the order.
abbrev pub with_member : List ℕ → Json → Members Number → Members Number
with_member key v no_members = member key v no_members
with_member key v (member k w ms) =
    match_ordering (slice_cmp nat_cmp key k) (member key v (member k w ms)) (member k v ms) (member k w (with_member key v ms))

-- The members without the one under the key.
abbrev pub without_member : List ℕ → Members Number → Members Number
without_member key no_members = no_members
without_member key (member k w ms) = if bytes_eq k key then ms else member k w (without_member key ms)

-- A value as a finite map: the members of each object in it, at every depth, in the order of their keys. Of equal keys the
-- first counts.
abbrev mutual
  pub sorted_value : Json → Json
  sorted_value null = null
  sorted_value (truth b) = truth b
  sorted_value (number n) = number n
  sorted_value (text bytes) = text bytes
  sorted_value (array vs) = array (sorted_elements vs)
  sorted_value (object ms) = object (sorted_members ms)

  pub sorted_elements : Elements Number → Elements Number
  sorted_elements no_elements = no_elements
  sorted_elements (element v vs) = element (sorted_value v) (sorted_elements vs)

  pub sorted_members : Members Number → Members Number
  sorted_members no_members = no_members
  sorted_members (member key v ms) = with_member key (sorted_value v) (sorted_members ms)
