-- How many `@id`s of a value are a text: at most one where none repeats another.
use Rattle.std.proofs.Common.{◌≡◌, ℕ, zero, suc, ◌+◌, ◌<◌, ◌≤◌, inl, inr, List, [], ◌∷◌, Bool, true, false, Option, Some, None, option_and_then, bytes_eq, refl, sym, ap, subst, ◌∙◌, arith}
use Rattle.std.proofs.lemmas.Slice.Eq.{bytes_eq-Decides}
use Rattle.json_decimal.specs.Number.{Number}
use Rattle.json_tree.specs.Values.{Json, null, truth, number, text, array, object, Elements, no_elements, element, Members, no_members, member}
use Rattle.json_tree.specs.Places.{IsBefore, element_at, member_at}
use Rattle.local_rules.specs.Roles.{HasRole, entry_role, member_role}
use Rattle.local_rules.specs.Identifiers.{IsIdRole}
use Rattle.local_rules.specs.declared.role.Role.{Role}
use Rattle.local_rules.specs.declared.role.Role.TheVariants as role
use Rattle.canon_faults.proofs.Everywhere.{entries_of, members_of_role}

abbrev pub one_if : Bool → ℕ
one_if true = 1
one_if false = 0

abbrev pub id_count : List ℕ → Option Role → List ℕ → ℕ
id_count x None bytes = 0
id_count x (Some role.InterfaceId) bytes = one_if (bytes_eq bytes x)
id_count x (Some role.ElementId) bytes = one_if (bytes_eq bytes x)
id_count x (Some other) bytes = 0

abbrev mutual
  pub ids_count : List ℕ → Option Role → Json → ℕ
  ids_count x o null = 0
  ids_count x o (truth b) = 0
  ids_count x o (number n) = 0
  ids_count x o (text bytes) = id_count x o bytes
  ids_count x o (array vs) = each_count x (entries_of o) vs
  ids_count x o (object ms) = members_count x (members_of_role o ms) ms

  pub each_count : List ℕ → Option Role → Elements Number → ℕ
  each_count x o no_elements = 0
  each_count x o (element v vs) = ids_count x o v + each_count x o vs

  pub members_count : List ℕ → (List ℕ → Option Role) → Members Number → ℕ
  members_count x roles no_members = 0
  members_count x roles (member key v ms) = ids_count x (roles key) v + members_count x roles ms

one_pair : (m n : List ℕ × Json) → Some m ≡ Some n → m ≡ n
one_pair m n e = cc

module _ (x : List ℕ) where
  -- ---- what stands at places is counted
  element_counts : (o : Option Role) (vs : Elements Number) (i : ℕ) (v : Json) → element_at vs i ≡ Some v → ids_count x o v ≤ each_count x o vs
  element_counts o no_elements i v at = absurd cc
  element_counts o (element w vs) zero v at =
      let same : w ≡ v = cc in
      let counts = ap (ids_count x o) same in omega arith
  element_counts o (element w vs) (suc i) v at = let later = element_counts o vs i v at in omega arith

  elements_count : (o : Option Role) (vs : Elements Number) (i j : ℕ) (v w : Json) → i < j → element_at vs i ≡ Some v → element_at vs j ≡ Some w
      → ids_count x o v + ids_count x o w ≤ each_count x o vs
  elements_count o no_elements i j v w less first second = absurd cc
  elements_count o (element u vs) i zero v w less first second = absurd (omega arith)
  elements_count o (element u vs) zero (suc j) v w less first second =
      let same : u ≡ v = cc in
      let counts = ap (ids_count x o) same in
      let later = element_counts o vs j w second in omega arith
  elements_count o (element u vs) (suc i) (suc j) v w less first second =
      let later = elements_count o vs i j v w (omega arith) first second in omega arith

  member_counts : (roles : List ℕ → Option Role) (ms : Members Number) (i : ℕ) (k : List ℕ) (v : Json) → member_at ms i ≡ Some (k, v)
      → ids_count x (roles k) v ≤ members_count x roles ms
  member_counts roles no_members i k v at = absurd cc
  member_counts roles (member l w ms) zero k v at =
      let counts : ids_count x (roles l) w ≡ ids_count x (roles k) v = ap (λ (m : List ℕ × Json). ids_count x (roles m.0) m.1) (one_pair (l, w) (k, v) at) in omega arith
  member_counts roles (member l w ms) (suc i) k v at = let later = member_counts roles ms i k v at in omega arith

  members_counts : (roles : List ℕ → Option Role) (ms : Members Number) (i j : ℕ) (k l : List ℕ) (v w : Json) → i < j → member_at ms i ≡ Some (k, v)
      → member_at ms j ≡ Some (l, w) → ids_count x (roles k) v + ids_count x (roles l) w ≤ members_count x roles ms
  members_counts roles no_members i j k l v w less first second = absurd cc
  members_counts roles (member m u ms) i zero k l v w less first second = absurd (omega arith)
  members_counts roles (member m u ms) zero (suc j) k l v w less first second =
      let counts : ids_count x (roles m) u ≡ ids_count x (roles k) v = ap (λ (n : List ℕ × Json). ids_count x (roles n.0) n.1) (one_pair (m, u) (k, v) first) in
      let later = member_counts roles ms j l w second in omega arith
  members_counts roles (member m u ms) (suc i) (suc j) k l v w less first second =
      let later = members_counts roles ms i j k l v w (omega arith) first second in omega arith

  own_count : (q : Role) → IsIdRole q → id_count x (Some q) x ≡ 1
  own_count q (inl is) = ap (λ (p : Role). id_count x (Some p) x) is ∙ ap one_if ((bytes_eq-Decides x x).1 refl)
  own_count q (inr is) = ap (λ (p : Role). id_count x (Some p) x) is ∙ ap one_if ((bytes_eq-Decides x x).1 refl)

  -- the count of a part, in the role that it has there
  member_is : (r s : Role) (ms : Members Number) (i : ℕ) (k : List ℕ) (v : Json) → member_at ms i ≡ Some (k, v)
      → option_and_then (λ (m : List ℕ × Json). member_role r ms m.0) (member_at ms i) ≡ Some s → member_role r ms k ≡ Some s
  member_is r s ms i k v at is = sym (ap (λ (o : Option (List ℕ × Json)). option_and_then (λ m. member_role r ms m.0) o) at) ∙ is

  pub one_at : (place : List ℕ) (r : Role) (v : Json) (q : Role) → HasRole r v place q (text x) → IsIdRole q → 1 ≤ ids_count x (Some r) v
  one_at [] r v q there is =
      let same : ids_count x (Some r) v ≡ ids_count x (Some q) (text x) =
      ap (λ (u : Json). ids_count x (Some r) u) there.1 ∙ ap (λ (p : Role). ids_count x (Some p) (text x)) there.0 in
      let own = own_count q is in omega arith
  one_at (i ∷ place) r (array vs) q there is =
      let part = one_at place there.0 there.1 q there.4 is in
      let same = ap (λ (o : Option Role). ids_count x o there.1) there.3 in
      let counts = element_counts (entry_role r) vs i there.1 there.2 in omega arith
  one_at (i ∷ place) r (object ms) q there is =
      let part = one_at place there.0 there.1 q there.4 is in
      let same = ap (λ (o : Option Role). ids_count x o there.1) (member_is r there.0 ms i there.2.0 there.1 there.2.1 there.3) in
      let counts = member_counts (member_role r ms) ms i there.2.0 there.1 there.2.1 in omega arith
  one_at (i ∷ place) r other q there is = absurd there.2

  text_has_no_part : (i : ℕ) (place : List ℕ) (r : Role) (v : Json) (q : Role) (w : Json) → v ≡ text x → HasRole r v (i ∷ place) q w → ⊥
  text_has_no_part i place r v q w is there = (subst (λ (u : Json). HasRole r u (i ∷ place) q w) is there).2

  two_at : (place other : List ℕ) (r : Role) (v : Json) (q s : Role) → IsBefore place other → HasRole r v place q (text x) → HasRole r v other s (text x)
      → IsIdRole q → IsIdRole s → 2 ≤ ids_count x (Some r) v
  two_at place [] r v q s before first second is also = absurd before
  two_at [] (j ∷ other) r v q s before first second is also = absurd (text_has_no_part j other r v s (text x) first.1 second)
  two_at (i ∷ place) (j ∷ other) r (array vs) q s (inl less) first second is also =
      let one = one_at place first.0 first.1 q first.4 is in
      let two = one_at other second.0 second.1 s second.4 also in
      let same = ap (λ (o : Option Role). ids_count x o first.1) first.3 in
      let alike = ap (λ (o : Option Role). ids_count x o second.1) second.3 in
      let counts = elements_count (entry_role r) vs i j first.1 second.1 less first.2 second.2 in omega arith
  two_at (i ∷ place) (j ∷ other) r (array vs) q s (inr same) first second is also =
      let parts : first.1 ≡ second.1 = (let e : Some first.1 ≡ Some second.1 = sym first.2 ∙ ap (element_at vs) same.0 ∙ second.2 in cc) in
      let roles : first.0 ≡ second.0 = (let e : Some first.0 ≡ Some second.0 = sym first.3 ∙ second.3 in cc) in
      let there : HasRole second.0 second.1 place q (text x) =
      subst (λ (p : Role). HasRole p second.1 place q (text x)) roles (subst (λ (u : Json). HasRole first.0 u place q (text x)) parts first.4) in
      let two = two_at place other second.0 second.1 q s same.1 there second.4 is also in
      let alike = ap (λ (o : Option Role). ids_count x o second.1) second.3 in
      let counts = element_counts (entry_role r) vs j second.1 second.2 in omega arith
  two_at (i ∷ place) (j ∷ other) r (object ms) q s (inl less) first second is also =
      let one = one_at place first.0 first.1 q first.4 is in
      let two = one_at other second.0 second.1 s second.4 also in
      let same = ap (λ (o : Option Role). ids_count x o first.1) (member_is r first.0 ms i first.2.0 first.1 first.2.1 first.3) in
      let alike = ap (λ (o : Option Role). ids_count x o second.1) (member_is r second.0 ms j second.2.0 second.1 second.2.1 second.3) in
      let counts = members_counts (member_role r ms) ms i j first.2.0 second.2.0 first.1 second.1 less first.2.1 second.2.1 in omega arith
  two_at (i ∷ place) (j ∷ other) r (object ms) q s (inr same) first second is also =
      let pairs = one_pair (first.2.0, first.1) (second.2.0, second.1) (sym first.2.1 ∙ ap (member_at ms) same.0 ∙ second.2.1) in
      let parts : first.1 ≡ second.1 = ap (λ (m : List ℕ × Json). m.1) pairs in
      let first_is = member_is r first.0 ms i first.2.0 first.1 first.2.1 first.3 in
      let second_is = member_is r second.0 ms j second.2.0 second.1 second.2.1 second.3 in
      let roles : first.0 ≡ second.0 =
      (let e : Some first.0 ≡ Some second.0 = sym first_is ∙ ap (λ (m : List ℕ × Json). member_role r ms m.0) pairs ∙ second_is in cc) in
      let there : HasRole second.0 second.1 place q (text x) =
      subst (λ (p : Role). HasRole p second.1 place q (text x)) roles (subst (λ (u : Json). HasRole first.0 u place q (text x)) parts first.4) in
      let two = two_at place other second.0 second.1 q s same.1 there second.4 is also in
      let alike = ap (λ (o : Option Role). ids_count x o second.1) second_is in
      let counts = member_counts (member_role r ms) ms j second.2.0 second.1 second.2.1 in omega arith
  two_at (i ∷ place) (j ∷ other) r v q s before first second is also = absurd first.2

  -- so where it is counted at most once, it stands at one place
  pub counted_once : (place other : List ℕ) (r : Role) (v : Json) (q s : Role) → IsBefore place other → HasRole r v place q (text x) → HasRole r v other s (text x)
      → IsIdRole q → IsIdRole s → ids_count x (Some r) v ≤ 1 → ⊥
  counted_once place other r v q s before first second is also few =
      let two = two_at place other r v q s before first second is also in omega arith
