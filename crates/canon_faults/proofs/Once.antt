-- Where no `@id` of an interface repeats an earlier one, each text is counted at most once.
use Rattle.std.proofs.Common.{◌≡◌, ℕ, zero, suc, ◌+◌, ◌<◌, ◌≤◌, ◌⊎◌, inl, inr, List, [], ◌∷◌, Bool, true, false, Option, Some, None, option_and_then, bytes_eq, refl, sym, ap, subst, ◌∙◌, arith}
use Rattle.std.proofs.lemmas.Slice.Eq.{bytes_eq-Decides}
use Rattle.json_decimal.specs.Number.{Number}
use Rattle.json_tree.specs.Values.{Json, null, truth, number, text, array, object, Elements, no_elements, element, Members, no_members, member}
use Rattle.json_tree.specs.Places.{IsBefore, element_at, member_at}
use Rattle.local_rules.specs.Roles.{HasRole, entry_role, member_role}
use Rattle.local_rules.specs.Identifiers.{IsIdRole}
use Rattle.local_rules.specs.Breaches.{IsBroken}
use Rattle.local_rules.specs.declared.rule.LocalRule.{LocalRule}
use Rattle.local_rules.specs.declared.rule.LocalRule.TheVariants as rule
use Rattle.local_rules.specs.declared.role.Role.{Role}
use Rattle.local_rules.specs.declared.role.Role.TheVariants as role
use Rattle.canon_faults.proofs.Everywhere.{entries_of, members_of_role}
use Rattle.canon_faults.proofs.Counts.{ids_count, each_count, members_count, one_if, id_count}

-- what two numbers have in sum that is at least 2
at_least_two : (a b : ℕ) → 2 ≤ a + b → (2 ≤ a) ⊎ (2 ≤ b) ⊎ ((1 ≤ a) × (1 ≤ b))
at_least_two zero b le = inr (inl (omega arith))
at_least_two (suc zero) zero le = absurd (omega arith)
at_least_two (suc zero) (suc b) le = inr (inr (omega arith, omega arith))
at_least_two (suc (suc a)) b le = inl (omega arith)

at_least_one : (a b : ℕ) → 1 ≤ a + b → (1 ≤ a) ⊎ (1 ≤ b)
at_least_one zero b le = inr (omega arith)
at_least_one (suc a) b le = inl (omega arith)

module _ (x : List ℕ) where
  -- a place with the text as an `@id`, in a value that may have a role
  abbrev pub Found : Option Role → Json → Type 0
  Found o v = (r : Role) × (o ≡ Some r) × ((place : List ℕ) × (q : Role) × HasRole r v place q (text x) × IsIdRole q)

  -- two places, one before the other
  abbrev pub FoundTwice : Option Role → Json → Type 0
  FoundTwice o v = (r : Role) × (o ≡ Some r) × ((place other : List ℕ) × (q s : Role) × IsBefore place other × HasRole r v place q (text x) × HasRole r v other s (text x)
      × IsIdRole q × IsIdRole s)

  same_bytes : (b : List ℕ) → 1 ≤ one_if (bytes_eq b x) → b ≡ x
  same_bytes b le = by (bytes_eq b x) refl le
    where
      by : (t : Bool) → bytes_eq b x ≡ t → 1 ≤ one_if t → b ≡ x
      by true is le = (bytes_eq-Decides b x).0 is
      by false is le = absurd (omega arith)

  text_found : (o : Option Role) (b : List ℕ) → 1 ≤ id_count x o b → Found o (text b)
  text_found None b le = absurd (omega arith)
  text_found (Some role.InterfaceId) b le = (role.InterfaceId, refl, ([], role.InterfaceId, (refl, ap text (same_bytes b le)), inl refl))
  text_found (Some role.ElementId) b le = (role.ElementId, refl, ([], role.ElementId, (refl, ap text (same_bytes b le)), inr refl))
  text_found (Some other) b le = absurd (omega arith)

  one_at_most : (t : Bool) → one_if t ≤ 1
  one_at_most true = omega arith
  one_at_most false = omega arith

  text_once : (o : Option Role) (b : List ℕ) → id_count x o b ≤ 1
  text_once None b = omega arith
  text_once (Some role.InterfaceId) b = one_at_most (bytes_eq b x)
  text_once (Some role.ElementId) b = one_at_most (bytes_eq b x)
  text_once (Some other) b = omega arith

  abbrev InElement : Option Role → Elements Number → Type 0
  InElement o vs = (i : ℕ) × (v : Json) × (element_at vs i ≡ Some v) × Found o v

  abbrev InMember : (List ℕ → Option Role) → Members Number → Type 0
  InMember roles ms = (i : ℕ) × (k : List ℕ) × (v : Json) × (member_at ms i ≡ Some (k, v)) × Found (roles k) v

  list_role : (o : Option Role) (s : Role) → entries_of o ≡ Some s → (r : Role) × (o ≡ Some r) × (entry_role r ≡ Some s)
  list_role None s is = absurd cc
  list_role (Some r) s is = (r, refl, is)

  object_role : (o : Option Role) (ms : Members Number) (k : List ℕ) (s : Role) → members_of_role o ms k ≡ Some s → (r : Role) × (o ≡ Some r) × (member_role r ms k ≡ Some s)
  object_role None ms k s is = absurd cc
  object_role (Some r) ms k s is = (r, refl, is)

  member_there : (r s : Role) (ms : Members Number) (i : ℕ) (k : List ℕ) (v : Json) → member_at ms i ≡ Some (k, v) → member_role r ms k ≡ Some s
      → option_and_then (λ (m : List ℕ × Json). member_role r ms m.0) (member_at ms i) ≡ Some s
  member_there r s ms i k v at is = ap (λ (o : Option (List ℕ × Json)). option_and_then (λ m. member_role r ms m.0) o) at ∙ is

  mutual
    found : (o : Option Role) (v : Json) → 1 ≤ ids_count x o v → Found o v
    found o null le = absurd (omega arith)
    found o (truth b) le = absurd (omega arith)
    found o (number n) le = absurd (omega arith)
    found o (text b) le = text_found o b le
    found o (array vs) le =
        let (i, v, at, (s, is, (place, q, there, id))) = found_element (entries_of o) vs le in
        let (r, whole, entry) = list_role o s is in (r, whole, (i ∷ place, q, (s, v, at, entry, there), id))
    found o (object ms) le =
        let (i, k, v, at, (s, is, (place, q, there, id))) = found_member (members_of_role o ms) ms le in
        let (r, whole, under) = object_role o ms k s is in (r, whole, (i ∷ place, q, (s, v, (k, at), member_there r s ms i k v at under, there), id))

    found_element : (o : Option Role) (vs : Elements Number) → 1 ≤ each_count x o vs → InElement o vs
    found_element o no_elements le = absurd (omega arith)
    found_element o (element v vs) le = elim (at_least_one (ids_count x o v) (each_count x o vs) le) [
      | inl here ↦ (zero, v, refl, found o v here)
      | inr later ↦ (let (i, w, at, f) = found_element o vs later in (suc i, w, at, f))
    ]

    found_member : (roles : List ℕ → Option Role) (ms : Members Number) → 1 ≤ members_count x roles ms → InMember roles ms
    found_member roles no_members le = absurd (omega arith)
    found_member roles (member k v ms) le = elim (at_least_one (ids_count x (roles k) v) (members_count x roles ms) le) [
      | inl here ↦ (zero, k, v, refl, found (roles k) v here)
      | inr later ↦ (let (i, l, w, at, f) = found_member roles ms later in (suc i, l, w, at, f))
    ]

  -- in one part of a list or an object twice, or in two parts
  abbrev TwiceInElements : Option Role → Elements Number → Type 0
  TwiceInElements o vs = ((i : ℕ) × (v : Json) × (element_at vs i ≡ Some v) × FoundTwice o v)
      ⊎ ((i j : ℕ) × (v w : Json) × (i < j) × (element_at vs i ≡ Some v) × (element_at vs j ≡ Some w) × Found o v × Found o w)

  abbrev TwiceInMembers : (List ℕ → Option Role) → Members Number → Type 0
  TwiceInMembers roles ms = ((i : ℕ) × (k : List ℕ) × (v : Json) × (member_at ms i ≡ Some (k, v)) × FoundTwice (roles k) v)
      ⊎ ((i j : ℕ) × (k l : List ℕ) × (v w : Json) × (i < j) × (member_at ms i ≡ Some (k, v)) × (member_at ms j ≡ Some (l, w)) × Found (roles k) v × Found (roles l) w)

  list_twice : (o : Option Role) (vs : Elements Number) → TwiceInElements (entries_of o) vs → FoundTwice o (array vs)
  list_twice o vs (inl (i, v, at, (s, is, (place, other, q, p, before, first, second, id, also)))) =
      let (r, whole, entry) = list_role o s is in
      (r, whole, (i ∷ place, i ∷ other, q, p, inr (refl, before), (s, v, at, entry, first), (s, v, at, entry, second), id, also))
  list_twice o vs (inr (i, j, v, w, less, at, there, (s, is, (place, q, first, id)), (t, and, (other, p, second, also)))) =
      let (r, whole, entry) = list_role o s is in
      let entries : entry_role r ≡ Some t = ap entries_of (sym whole) ∙ and in
      (r, whole, (i ∷ place, j ∷ other, q, p, inl less, (s, v, at, entry, first), (t, w, there, entries, second), id, also))

  object_twice : (o : Option Role) (ms : Members Number) → TwiceInMembers (members_of_role o ms) ms → FoundTwice o (object ms)
  object_twice o ms (inl (i, k, v, at, (s, is, (place, other, q, p, before, first, second, id, also)))) =
      let (r, whole, under) = object_role o ms k s is in
      let there = member_there r s ms i k v at under in
      (r, whole, (i ∷ place, i ∷ other, q, p, inr (refl, before), (s, v, (k, at), there, first), (s, v, (k, at), there, second), id, also))
  object_twice o ms (inr (i, j, k, l, v, w, less, at, there, (s, is, (place, q, first, id)), (t, and, (other, p, second, also)))) =
      let (r, whole, under) = object_role o ms k s is in
      let beside : member_role r ms l ≡ Some t = ap (λ (u : Option Role). members_of_role u ms l) (sym whole) ∙ and in
      (r, whole, (i ∷ place, j ∷ other, q, p, inl less, (s, v, (k, at), member_there r s ms i k v at under, first), (t, w, (l, there), member_there r t ms j l w there beside, second), id, also))

  mutual
    twice : (o : Option Role) (v : Json) → 2 ≤ ids_count x o v → FoundTwice o v
    twice o null le = absurd (omega arith)
    twice o (truth b) le = absurd (omega arith)
    twice o (number n) le = absurd (omega arith)
    twice o (text b) le = let few = text_once o b in absurd (omega arith)
    twice o (array vs) le = list_twice o vs (twice_in_elements (entries_of o) vs le)
    twice o (object ms) le = object_twice o ms (twice_in_members (members_of_role o ms) ms le)

    twice_in_elements : (o : Option Role) (vs : Elements Number) → 2 ≤ each_count x o vs → TwiceInElements o vs
    twice_in_elements o no_elements le = absurd (omega arith)
    twice_in_elements o (element v vs) le = elim (at_least_two (ids_count x o v) (each_count x o vs) le) [
      | inl here ↦ inl (zero, v, refl, twice o v here)
      | inr (inl later) ↦ elim (twice_in_elements o vs later) [
        | inl (i, w, at, f) ↦ inl (suc i, w, at, f)
        | inr (i, j, u, w, less, at, there, f, g) ↦ inr (suc i, suc j, u, w, omega arith, at, there, f, g)
      ]
      | inr (inr (here, later)) ↦ (let (j, w, at, g) = found_element o vs later in inr (zero, suc j, v, w, omega arith, refl, at, found o v here, g))
    ]

    twice_in_members : (roles : List ℕ → Option Role) (ms : Members Number) → 2 ≤ members_count x roles ms → TwiceInMembers roles ms
    twice_in_members roles no_members le = absurd (omega arith)
    twice_in_members roles (member k v ms) le = elim (at_least_two (ids_count x (roles k) v) (members_count x roles ms) le) [
      | inl here ↦ inl (zero, k, v, refl, twice (roles k) v here)
      | inr (inl later) ↦ elim (twice_in_members roles ms later) [
        | inl (i, l, w, at, f) ↦ inl (suc i, l, w, at, f)
        | inr (i, j, l, m, u, w, less, at, there, f, g) ↦ inr (suc i, suc j, l, m, u, w, omega arith, at, there, f, g)
      ]
      | inr (inr (here, later)) ↦ (let (j, l, w, at, g) = found_member roles ms later in inr (zero, suc j, k, l, v, w, omega arith, refl, at, found (roles k) v here, g))
    ]

  pub at_most_once : (whole : Json) → ((place : List ℕ) (broken : LocalRule) → IsBroken whole place broken → ⊥) → ids_count x (Some role.Interface) whole ≤ 1
  at_most_once whole none =
      let no_two : 2 ≤ ids_count x (Some role.Interface) whole → ⊥ = λ le.
      (let (r, same, (place, other, q, s, before, first, second, id, also)) = twice (Some role.Interface) whole le in
      let is : r ≡ role.Interface = (let e : Some role.Interface ≡ Some r = same in cc) in
      let one : HasRole role.Interface whole place q (text x) = subst (λ (p : Role). HasRole p whole place q (text x)) is first in
      let two : HasRole role.Interface whole other s (text x) = subst (λ (p : Role). HasRole p whole other s (text x)) is second in
      none other rule.RepeatedId (s, text x, two, inr (inr (inr (also, (place, q, before, one, id)))))) in
      omega (arith, no_two)
