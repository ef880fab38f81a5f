-- A value whose members stand in the order of their keys, and that is another one but for the order of members.
use Rattle.std.specs.Prelude.{◌≡◌, ℕ, List}
use Rattle.std.specs.List.Sorted.{IsPermutation, IsSortedBy}
use Rattle.std.specs.Ordering.{is_lt, nat_cmp}
use Rattle.std.specs.Cmp.Lexicographic.{slice_cmp}
use Rattle.json_decimal.specs.Number.{Number}
use Rattle.json_tree.specs.Values.{Json, null, truth, number, text, array, object, Elements, no_elements, element, Members, no_members, member, members_of}

-- The keys do not fall in the order of their bytes.
abbrev pub AreInOrder : List (List ℕ × Json) → Type 0
AreInOrder ms = IsSortedBy (λ (m n : List ℕ × Json). is_lt (slice_cmp nat_cmp m.0 n.0)) ms

-- The second value is the first with the members of each object, at every depth, in the order of their keys.
abbrev mutual
  pub IsSortedOf : Json → Json → Type 0
  IsSortedOf null w = w ≡ null
  IsSortedOf (truth b) w = w ≡ truth b
  IsSortedOf (number n) w = w ≡ number n
  IsSortedOf (text t) w = w ≡ text t
  IsSortedOf (array vs) w = (ws : Elements Number) × ElementsAreSortedOf vs ws × (w ≡ array ws)
  IsSortedOf (object ms) w = (values moved : List (List ℕ × Json))
      × MembersAreSortedOf ms (members_of values) × IsPermutation values moved × AreInOrder moved × (w ≡ object (members_of moved))

  pub ElementsAreSortedOf : Elements Number → Elements Number → Type 0
  ElementsAreSortedOf no_elements ws = ws ≡ no_elements
  ElementsAreSortedOf (element v vs) ws = (x : Json) × (xs : Elements Number)
      × IsSortedOf v x × ElementsAreSortedOf vs xs × (ws ≡ element x xs)

  -- Each member keeps its key and its place, and its value is sorted.
  pub MembersAreSortedOf : Members Number → Members Number → Type 0
  MembersAreSortedOf no_members ns = ns ≡ no_members
  MembersAreSortedOf (member key v ms) ns = (x : Json) × (xs : Members Number)
      × IsSortedOf v x × MembersAreSortedOf ms xs × (ns ≡ member key x xs)
