-- A canonical value beside the value that declares the same: nothing is wrong in the first, and it has no more `@id`s.
use Rattle.std.proofs.Common.{◌≡◌, ℕ, suc, ◌+◌, ◌≤◌, List, [], ◌∷◌, length, map, Bool, true, false, ◌||◌, if◌then◌else◌, Option, Some, None, bytes_eq, refl, sym, ap, subst, ◌∙◌, arith}
use Rattle.std.specs.List.{AllByRecursion}
use Rattle.std.proofs.lemmas.Slice.Eq.{bytes_eq-Decides}
use Rattle.json_decimal.specs.Number.{Number}
use Rattle.json_tree.specs.Values.{Json, null, truth, number, text, array, object, Elements, no_elements, element, elements_of, Members, no_members, member, members_of}
use Rattle.json_tree.specs.Members.{list_of, value_at}
use Rattle.local_rules.specs.Roles.{element_of, element_member, entry_role, key_of, member_role, role_of_key}
use Rattle.local_rules.specs.declared.role.Element.{Element}
use Rattle.local_rules.specs.declared.role.Role.{Role}
use Rattle.canon_text.specs.Sorting.{is_before, put_by, sorted_by}
use Rattle.canon_text.specs.Objects.{present, object_of_parts, list_in_order}
use Rattle.canon_text.specs.Machinery.Pairs.{pair_name, pair_value}
use Rattle.canon_text.proofs.Told.{all_sorted, is_in, are_distinct, keys_of, and_first, and_second, no_both}
use Rattle.canon_faults.proofs.Everywhere.{Everywhere, InEach, InMembers}
use Rattle.canon_faults.proofs.Counts.{ids_count, each_count, members_count}
use Rattle.canon_faults.proofs.Fine.{Fine, IsLeaf}

abbrev pub Pairs : Type 0
Pairs = List (List ℕ × Json)

abbrev pub Parts : Type 0
Parts = List (List ℕ × Option Json)

pub record Good (interface : Members Number) (o : Option Role) (canonical own : Json) : Type 0 where
  pub fine : Everywhere (Fine interface) o canonical
  pub fewer : (x : List ℕ) → ids_count x o canonical ≤ ids_count x o own

-- ---- values without parts
pub leaf_everywhere : (P : Role → Json → Type 0) (r : Role) (v : Json) → IsLeaf v → P r v → Everywhere P (Some r) v
leaf_everywhere P r null leaf h = h
leaf_everywhere P r (truth b) leaf h = h
leaf_everywhere P r (number n) leaf h = h
leaf_everywhere P r (text bytes) leaf h = h
leaf_everywhere P r (array vs) leaf h = absurd leaf
leaf_everywhere P r (object ms) leaf h = absurd leaf

pub leaf_good : (interface : Members Number) (r : Role) (v : Json) → IsLeaf v → Fine interface r v → Good interface (Some r) v v
leaf_good interface r v leaf fine = record { fine = leaf_everywhere (Fine interface) r v leaf fine; fewer = λ x. omega arith }

-- ---- objects
abbrev count_in : List ℕ → Option Role → Option Json → ℕ
count_in x o None = 0
count_in x o (Some v) = ids_count x o v

abbrev parts_count : List ℕ → (List ℕ → Option Role) → Parts → ℕ
parts_count x roles [] = 0
parts_count x roles (p ∷ ps) = count_in x (roles p.0) p.1 + parts_count x roles ps

-- how many there are in the values under the keys
abbrev under_count : List ℕ → (List ℕ → Option Role) → List (List ℕ) → Members Number → ℕ
under_count x roles [] ms = 0
under_count x roles (k ∷ ks) ms = count_in x (roles k) (value_at k ms) + under_count x roles ks ms

present_count : (x : List ℕ) (roles : List ℕ → Option Role) (ps : Parts) → members_count x roles (members_of (present ps)) ≡ parts_count x roles ps
present_count x roles [] = refl
present_count x roles ((k, None) ∷ ps) = let rest = present_count x roles ps in omega arith
present_count x roles ((k, Some v) ∷ ps) = let rest = present_count x roles ps in omega arith

module _ (x : List ℕ) (roles : List ℕ → Option Role) where
  none_under : (ks : List (List ℕ)) → under_count x roles ks no_members ≡ 0
  none_under [] = refl
  none_under (k ∷ ks) = let rest = none_under ks in omega arith

  -- one more member counts under its key alone
  elsewhere : (k : List ℕ) (v : Json) (ms : Members Number) (ks : List (List ℕ)) → is_in k ks ≡ false
      → under_count x roles ks (member k v ms) ≡ under_count x roles ks ms
  elsewhere k v ms [] out = refl
  elsewhere k v ms (l ∷ ks) out = by (bytes_eq k l) refl out (elsewhere k v ms ks)
    where
      by : (b : Bool) → bytes_eq k l ≡ b → (b || is_in k ks) ≡ false → (is_in k ks ≡ false → under_count x roles ks (member k v ms) ≡ under_count x roles ks ms)
          → count_in x (roles l) (if b then Some v else value_at l ms) + under_count x roles ks (member k v ms) ≡ count_in x (roles l) (value_at l ms) + under_count x roles ks ms
      by true is h later = absurd (no_both true refl h)
      by false is h later = ap (λ (n : ℕ). count_in x (roles l) (value_at l ms) + n) (later h)

  one_more : (k : List ℕ) (v : Json) (ms : Members Number) (ks : List (List ℕ)) → are_distinct ks ≡ true
      → under_count x roles ks (member k v ms) ≤ ids_count x (roles k) v + under_count x roles ks ms
  one_more k v ms [] distinct = omega arith
  one_more k v ms (l ∷ ks) distinct = by (bytes_eq k l) refl (one_more k v ms ks (and_second (is_in l ks) (are_distinct ks) distinct))
    where
      by : (b : Bool) → bytes_eq k l ≡ b → under_count x roles ks (member k v ms) ≤ ids_count x (roles k) v + under_count x roles ks ms
          → count_in x (roles l) (if b then Some v else value_at l ms) + under_count x roles ks (member k v ms)
          ≤ ids_count x (roles k) v + (count_in x (roles l) (value_at l ms) + under_count x roles ks ms)
      by true is later =
          let same : k ≡ l = (bytes_eq-Decides k l).0 is in
          let out : is_in k ks ≡ false = ap (λ (m : List ℕ). is_in m ks) same ∙ and_first (is_in l ks) (are_distinct ks) distinct in
          let counts : ids_count x (roles k) v ≡ ids_count x (roles l) v = ap (λ (m : List ℕ). ids_count x (roles m) v) same in
          let rest = elsewhere k v ms ks out in omega arith
      by false is later = omega arith

  pub under_keys : (ks : List (List ℕ)) (ms : Members Number) → are_distinct ks ≡ true → under_count x roles ks ms ≤ members_count x roles ms
  under_keys ks no_members distinct = let none = none_under ks in omega arith
  under_keys ks (member k v ms) distinct =
      let one = one_more k v ms ks distinct in
      let rest = under_keys ks ms distinct in omega arith

-- ---- lists in order
pub list_again : (vs : List Json) → list_of (elements_of vs) ≡ vs
list_again [] = refl
list_again (v ∷ vs) = ap (λ (ws : List Json). v ∷ ws) (list_again vs)

module _ {A : Type 0} (key : A → List ℕ) where
  put_length : (x : A) (xs : List A) → length (put_by key x xs) ≡ suc (length xs)
  put_length x [] = refl
  put_length x (y ∷ ys) = by (is_before (key y) (key x)) (put_length x ys)
    where
      by : (b : Bool) → length (put_by key x ys) ≡ suc (length ys) → length (if b then y ∷ put_by key x ys else x ∷ y ∷ ys) ≡ suc (suc (length ys))
      by true rest = omega arith
      by false rest = refl

  pub length_sorted : (xs : List A) → length (sorted_by key xs) ≡ length xs
  length_sorted [] = refl
  length_sorted (x ∷ xs) = let rest = length_sorted xs in let put = put_length x (sorted_by key xs) in omega arith

elements_length : (ns : Pairs) → length (list_of (elements_of (map pair_value ns))) ≡ length ns
elements_length [] = refl
elements_length (n ∷ ns) = let rest = elements_length ns in omega arith

pub sorted_length : (ms : Pairs) → length (list_of (elements_of (map pair_value (sorted_by pair_name ms)))) ≡ length ms
sorted_length ms = elements_length (sorted_by pair_name ms) ∙ length_sorted pair_name ms

module _ (interface : Members Number) where
  -- a part of a canonical object beside what stands under its key in the value that declares the same
  abbrev pub PartGood : Option Role → Option Role → Option Json → Option Json → Type 0
  PartGood o p None own = Unit {0}
  PartGood o p (Some v) own = Everywhere (Fine interface) o v × ((x : List ℕ) → ids_count x o v ≤ count_in x p own)

  abbrev pub PartsGood : Role → Element → Members Number → Members Number → Parts → Type 0
  PartsGood r e cs ms [] = Unit {0}
  PartsGood r e cs ms (p ∷ ps) =
      PartGood (Some (role_of_key r e cs (key_of e p.0))) (Some (role_of_key r e ms (key_of e p.0))) p.1 (value_at p.0 ms) × PartsGood r e cs ms ps

  -- a part from a value that is as good
  pub part_of : (r : Role) (v w : Json) (own : Option Json) → own ≡ Some w → Good interface (Some r) v w → PartGood (Some r) (Some r) (Some v) own
  part_of r v w own is good = (good.fine, λ x. (let fewer = good.fewer x in let same = ap (count_in x (Some r)) is in omega arith))

  module _ (r : Role) (e : Element) (cs ms : Members Number) where
    -- the roles of the members
    known : (ns : Members Number) (k : List ℕ) → element_of r ns ≡ Some e → member_role r ns k ≡ Some (role_of_key r e ns (key_of e k))
    known ns k is = ap (λ (o : Option Element). element_member r ns o k) is

    parts_fine : (ps : Parts) → element_of r cs ≡ Some e → PartsGood r e cs ms ps → InMembers (Fine interface) (member_role r cs) (members_of (present ps))
    parts_fine [] is good = tt
    parts_fine ((k, None) ∷ ps) is good = parts_fine ps is good.1
    parts_fine ((k, Some v) ∷ ps) is good =
        (subst (λ (o : Option Role). Everywhere (Fine interface) o v) (sym (known cs k is)) good.0.0, parts_fine ps is good.1)

    parts_fewer : (x : List ℕ) (ps : Parts) → element_of r cs ≡ Some e → element_of r ms ≡ Some e → PartsGood r e cs ms ps
        → parts_count x (member_role r cs) ps ≤ under_count x (member_role r ms) (keys_of ps) ms
    parts_fewer x [] is also good = omega arith
    parts_fewer x ((k, None) ∷ ps) is also good = let rest = parts_fewer x ps is also good.1 in omega arith
    parts_fewer x ((k, Some v) ∷ ps) is also good =
        let rest = parts_fewer x ps is also good.1 in
        let first = good.0.1 x in
        let one = ap (λ (o : Option Role). ids_count x o v) (known cs k is) in
        let other = ap (λ (o : Option Role). count_in x o (value_at k ms)) (known ms k also) in omega arith

  pub object_good : (r : Role) (e : Element) (ps : Parts) (ms : Members Number) → element_of r (members_of (present ps)) ≡ Some e → element_of r ms ≡ Some e
      → are_distinct (keys_of ps) ≡ true → Fine interface r (object_of_parts ps) → PartsGood r e (members_of (present ps)) ms ps
      → Good interface (Some r) (object_of_parts ps) (object ms)
  object_good r e ps ms is also distinct fine parts = record {
    fine = (fine, parts_fine r e (members_of (present ps)) ms ps is parts);
    fewer = λ x.
        let cs = members_of (present ps) in
        let all = present_count x (member_role r cs) ps in
        let less = parts_fewer r e cs ms x ps is also parts in
        let under = under_keys x (member_role r ms) (keys_of ps) ms distinct in omega arith;
  }

  -- ---- lists
  -- each value beside the one that declares the same
  abbrev pub EachGood : Role → Pairs → Elements Number → Type 0
  EachGood s [] no_elements = Unit {0}
  EachGood s [] (element v vs) = ⊥
  EachGood s (m ∷ ms) no_elements = ⊥
  EachGood s (m ∷ ms) (element v vs) = Good interface (Some s) (pair_value m) v × EachGood s ms vs

  abbrev pairs_count : List ℕ → Option Role → Pairs → ℕ
  pairs_count x o [] = 0
  pairs_count x o (m ∷ ms) = ids_count x o (pair_value m) + pairs_count x o ms

  put_count : (x : List ℕ) (o : Option Role) (m : List ℕ × Json) (ms : Pairs) → pairs_count x o (put_by pair_name m ms) ≡ ids_count x o (pair_value m) + pairs_count x o ms
  put_count x o m [] = refl
  put_count x o m (n ∷ ns) = by (is_before (pair_name n) (pair_name m)) (put_count x o m ns)
    where
      by : (b : Bool) → pairs_count x o (put_by pair_name m ns) ≡ ids_count x o (pair_value m) + pairs_count x o ns
          → pairs_count x o (if b then n ∷ put_by pair_name m ns else m ∷ n ∷ ns) ≡ ids_count x o (pair_value m) + (ids_count x o (pair_value n) + pairs_count x o ns)
      by true rest = omega arith
      by false rest = refl

  sorted_count : (x : List ℕ) (o : Option Role) (ms : Pairs) → pairs_count x o (sorted_by pair_name ms) ≡ pairs_count x o ms
  sorted_count x o [] = refl
  sorted_count x o (m ∷ ms) = let rest = sorted_count x o ms in let put = put_count x o m (sorted_by pair_name ms) in omega arith

  elements_count : (x : List ℕ) (o : Option Role) (ms : Pairs) → each_count x o (elements_of (map pair_value ms)) ≡ pairs_count x o ms
  elements_count x o [] = refl
  elements_count x o (m ∷ ms) = ap (λ (n : ℕ). ids_count x o (pair_value m) + n) (elements_count x o ms)

  pairs_fewer : (x : List ℕ) (s : Role) (ms : Pairs) (vs : Elements Number) → EachGood s ms vs → pairs_count x (Some s) ms ≤ each_count x (Some s) vs
  pairs_fewer x s [] no_elements good = omega arith
  pairs_fewer x s [] (element v vs) good = absurd good
  pairs_fewer x s (m ∷ ms) no_elements good = absurd good
  pairs_fewer x s (m ∷ ms) (element v vs) good = let first = good.0.fewer x in let rest = pairs_fewer x s ms vs good.1 in omega arith

  abbrev pub PairFine : Role → List ℕ × Json → Type 0
  PairFine s m = Everywhere (Fine interface) (Some s) (pair_value m)

  pub pairs_fine : (s : Role) (ms : Pairs) (vs : Elements Number) → EachGood s ms vs → AllByRecursion (PairFine s) ms
  pairs_fine s [] no_elements good = tt
  pairs_fine s [] (element v vs) good = absurd good
  pairs_fine s (m ∷ ms) no_elements good = absurd good
  pairs_fine s (m ∷ ms) (element v vs) good = (good.0.fine, pairs_fine s ms vs good.1)

  pub elements_fine : (s : Role) (ms : Pairs) → AllByRecursion (PairFine s) ms → InEach (Fine interface) (Some s) (elements_of (map pair_value ms))
  elements_fine s [] all = tt
  elements_fine s (m ∷ ms) all = (all.0, elements_fine s ms all.1)

  pub list_good : (r s : Role) (ms : Pairs) (vs : Elements Number) → entry_role r ≡ Some s → Fine interface r (list_in_order ms) → EachGood s ms vs
      → Good interface (Some r) (list_in_order ms) (array vs)
  list_good r s ms vs entries fine good = record {
    fine = (
      fine,
      subst (λ (o : Option Role). InEach (Fine interface) o (elements_of (map pair_value (sorted_by pair_name ms)))) (sym entries)
          (elements_fine s (sorted_by pair_name ms) (all_sorted pair_name (PairFine s) ms (pairs_fine s ms vs good))),
    );
    fewer = λ x.
        let one = elements_count x (Some s) (sorted_by pair_name ms) in
        let sorted = sorted_count x (Some s) ms in
        let less = pairs_fewer x s ms vs good in
        let first = ap (λ (o : Option Role). each_count x o (elements_of (map pair_value (sorted_by pair_name ms)))) entries in
        let second = ap (λ (o : Option Role). each_count x o vs) entries in omega arith;
  }
