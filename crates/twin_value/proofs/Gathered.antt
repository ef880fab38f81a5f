-- Members that are put behind others.
use Rattle.std.proofs.Common.{◌≡◌, ℕ, ◌+◌, ◌<◌, ◌≤◌, List, [], ◌∷◌, ◌++◌, length, map, take, get_or, Bool, true, false, codes, refl, sym, ap, subst, ◌∙◌, arith}
use Rattle.std.specs.Prelude.{if◌then◌else◌}
use Rattle.std.specs.List.Sorted.{IsPermutation, IsSortedBy}
use Rattle.std.specs.Ordering.{is_lt, nat_cmp}
use Rattle.std.specs.Cmp.Lexicographic.{slice_cmp}
use Rattle.std.proofs.lemmas.List.{get_or-map, length-map, take_all}
use Rattle.std.proofs.lemmas.List.Sorted.{IsPermutation-map}
use Rattle.json_decimal.specs.Number.{Number}
use Rattle.json_tree.specs.Values.{Json, text, object, Members, no_members, member}
use Rattle.json_tree.specs.View.{view, member_view, members_view}
use Rattle.json_tree.specs.Sorting.{IsSortedOf, MembersAreSortedOf}
use Rattle.json_tree.specs.declared.tree.Tree.{Tree}
use Rattle.json_tree.specs.declared.tree.Tree as variants
use Rattle.json_tree.specs.declared.tree.Member.{Member}
use Rattle.json_tree.proofs.Views.{view-Members}
use Rattle.twin_value.specs.Twins.{picked, joined_members}
use Rattle.twin_value.specs.Machinery.Gathering.{PutsBehind}
use Rattle.twin_value.proofs.Enumerated.{take-more}

joined_none : (ms : Members Number) → joined_members ms no_members ≡ ms
joined_none no_members = refl
joined_none (member key v ms) = ap (member key v) (joined_none ms)

joined_more : (ms ns ls : Members Number) → joined_members (joined_members ms ns) ls ≡ joined_members ms (joined_members ns ls)
joined_more no_members ns ls = refl
joined_more (member key v ms) ns ls = ap (member key v) (joined_more ms ns ls)

-- one member more
sorted_more : (ms : Members Number) (ns : List Member) (key : List ℕ) (v : Json) (n : Member) → MembersAreSortedOf ms (members_view ns) → n.key ≡ key → IsSortedOf v (view n.value)
    → MembersAreSortedOf (joined_members ms (member key v no_members)) (members_view (ns ++ n ∷ []))
sorted_more no_members [] key v n h q k = (view n.value, no_members, k, refl, ap (λ (l : List ℕ). member l (view n.value) no_members) q)
sorted_more no_members (x ∷ ns) key v n h q k = absurd (let f : member x.key (view x.value) (members_view ns) ≡ no_members = h in cc)
sorted_more (member u w ms) [] key v n (x, xs, h, hs, same) q k = absurd (let f : no_members ≡ member u x xs = same in cc)
sorted_more (member u w ms) (y ∷ ns) key v n (x, xs, h, hs, same) q k =
    let f : member y.key (view y.value) (members_view ns) ≡ member u x xs = same in
    let g : xs ≡ members_view ns = cc in
    let e : x ≡ view y.value = cc in
    let j : y.key ≡ u = cc in (
      view y.value,
      members_view (ns ++ n ∷ []),
      subst (λ (z : Json). IsSortedOf w z) e h,
      sorted_more ms ns key v n (subst (λ (zs : Members Number). MembersAreSortedOf ms zs) g hs) q k,
      ap (λ (l : List ℕ). member l (view y.value) (members_view (ns ++ n ∷ []))) j,
    )

pub adds_one : (old new : List Member) (key : List ℕ) (v : Json) (n : Member) → new ≡ old ++ n ∷ [] → n.key ≡ key → IsSortedOf v (view n.value) → PutsBehind old new (member key v no_members)
adds_one old new key v n is q k = λ before h.
    subst (λ (l : List Member). MembersAreSortedOf (joined_members before (member key v no_members)) (members_view l)) (sym is) (sorted_more before old key v n h q k)

pub adds_none : (old : List Member) → PutsBehind old old no_members
adds_none old = λ before h. subst (λ (ms : Members Number). MembersAreSortedOf ms (members_view old)) (sym (joined_none before)) h

pub adds_both : (a b c : List Member) (xs ys : Members Number) → PutsBehind a b xs → PutsBehind b c ys → PutsBehind a c (joined_members xs ys)
adds_both a b c xs ys f g = λ before h.
    subst (λ (ms : Members Number). MembersAreSortedOf ms (members_view c)) (joined_more before xs ys) (g (joined_members before xs) (f before h))

-- of no members at first
pub added : (new : List Member) (more : Members Number) → PutsBehind [] new more → MembersAreSortedOf more (members_view new)
added new more f = f no_members refl

-- ---- in the order of keys
sorted_mapped : {X Y : Type 0} (f : X → Y) (less : Y → Y → Bool) (xs : List X) → IsSortedBy (λ (x y : X). less (f x) (f y)) xs → IsSortedBy less (map f xs)
sorted_mapped f less [] h k d low within = absurd (omega (arith, within))
sorted_mapped {X} {Y} f less (x ∷ xs) h k d low within =
    let size : length (map f (x ∷ xs)) ≡ length (x ∷ xs) = length-map (x ∷ xs) f in
    let inside : k + 1 < length (x ∷ xs) = omega (arith, within, size) in
    let first : get_or (map f (x ∷ xs)) k d ≡ f (get_or (x ∷ xs) k x) = get_or-map f (x ∷ xs) k x d (omega (arith, inside)) in
    let second : get_or (map f (x ∷ xs)) (k + 1) d ≡ f (get_or (x ∷ xs) (k + 1) x) = get_or-map f (x ∷ xs) (k + 1) x d inside in
    ap (λ (y : Y). less y (get_or (map f (x ∷ xs)) k d)) second ∙ ap (λ (y : Y). less (f (get_or (x ∷ xs) (k + 1) x)) y) first ∙ h k x low inside

pub ordered_so : (ms : Members Number) (values moved : List Member) → MembersAreSortedOf ms (members_view values) → IsPermutation values moved
    → IsSortedBy (λ (m n : Member). is_lt (slice_cmp nat_cmp m.key n.key)) moved → IsSortedOf (object ms) (view (variants.Members moved))
ordered_so ms values moved h p s =
    let sorted : IsSortedOf (object ms) (object (members_view moved)) = (
      map member_view values,
      map member_view moved,
      h,
      IsPermutation-map member_view values moved p,
      sorted_mapped member_view (λ (m n : List ℕ × Json). is_lt (slice_cmp nat_cmp m.0 n.0)) moved s,
      refl,
    ) in
    subst (λ (w : Json). IsSortedOf (object ms) w) (sym (view-Members moved)) sorted

-- ---- all of them
view_more : (ms : List Member) (m : Member) → members_view (ms ++ m ∷ []) ≡ joined_members (members_view ms) (member m.key (view m.value) no_members)
view_more [] m = refl
view_more (n ∷ ms) m = ap (member n.key (view n.value)) (view_more ms m)

pub all_next : (old now new from : List Member) (i : ℕ) (m : Member) → i < length from → m ≡ get_or from i m → PutsBehind old now (members_view (take i from)) → PutsBehind now new (member m.key (view m.value) no_members)
    → PutsBehind old new (members_view (take (i + 1) from))
all_next old now new from i m within is f g =
    subst (λ (ms : Members Number). PutsBehind old new ms) (sym (ap members_view (take-more from i m within is) ∙ view_more (take i from) m)) (adds_both old now new _ _ f g)

pub all_done : (old new from : List Member) (i : ℕ) → length from ≤ i → PutsBehind old new (members_view (take i from)) → PutsBehind old new (members_view from)
all_done old new from i past f = subst (λ (l : List Member). PutsBehind old new (members_view l)) (take_all i from past) f

-- ---- those that pass
module _ (passes : List ℕ → Bool) (becomes : Json → Json) where
  behind : (b : Bool) (key : List ℕ) (v : Json) (ms ns : Members Number)
      → (if b then member key v (joined_members ms ns) else joined_members ms ns) ≡ joined_members (if b then member key v ms else ms) ns
  behind true key v ms ns = refl
  behind false key v ms ns = refl

  abbrev one : Member → Members Number
  one m = if passes m.key then member m.key (becomes (view m.value)) no_members else no_members

  picked_more : (ms : List Member) (m : Member) → picked passes becomes (members_view (ms ++ m ∷ [])) ≡ joined_members (picked passes becomes (members_view ms)) (one m)
  picked_more [] m = refl
  picked_more (n ∷ ms) m =
      ap (λ (rest : Members Number). if passes n.key then member n.key (becomes (view n.value)) rest else rest) (picked_more ms m)
      ∙ behind (passes n.key) n.key (becomes (view n.value)) (picked passes becomes (members_view ms)) (one m)

  one_kept : (m : Member) → passes m.key ≡ true → one m ≡ member m.key (becomes (view m.value)) no_members
  one_kept m e = ap (λ (b : Bool). if b then member m.key (becomes (view m.value)) no_members else no_members) e

  one_left : (m : Member) → passes m.key ≡ false → one m ≡ no_members
  one_left m e = ap (λ (b : Bool). if b then member m.key (becomes (view m.value)) no_members else no_members) e

  next : (old new from : List Member) (i : ℕ) (m : Member) → i < length from → m ≡ get_or from i m → PutsBehind old new (joined_members (picked passes becomes (members_view (take i from))) (one m))
      → PutsBehind old new (picked passes becomes (members_view (take (i + 1) from)))
  next old new from i m within is f =
      subst (λ (ms : Members Number). PutsBehind old new ms) (sym (ap (λ (l : List Member). picked passes becomes (members_view l)) (take-more from i m within is) ∙ picked_more (take i from) m)) f

  pub picked_next : (old now new from : List Member) (i : ℕ) (m : Member) → i < length from → m ≡ get_or from i m → passes m.key ≡ true → PutsBehind old now (picked passes becomes (members_view (take i from)))
      → PutsBehind now new (member m.key (becomes (view m.value)) no_members) → PutsBehind old new (picked passes becomes (members_view (take (i + 1) from)))
  picked_next old now new from i m within is kept f g =
      next old new from i m within is (adds_both old now new _ _ f (subst (λ (ms : Members Number). PutsBehind now new ms) (sym (one_kept m kept)) g))

  pub picked_skip : (old now from : List Member) (i : ℕ) (m : Member) → i < length from → m ≡ get_or from i m → passes m.key ≡ false → PutsBehind old now (picked passes becomes (members_view (take i from)))
      → PutsBehind old now (picked passes becomes (members_view (take (i + 1) from)))
  picked_skip old now from i m within is left f =
      next old now from i m within is (adds_both old now now _ _ f (subst (λ (ms : Members Number). PutsBehind now now ms) (sym (one_left m left)) (adds_none now)))

  pub picked_done : (old new from : List Member) (i : ℕ) → length from ≤ i → PutsBehind old new (picked passes becomes (members_view (take i from))) → PutsBehind old new (picked passes becomes (members_view from))
  picked_done old new from i past f = subst (λ (l : List Member). PutsBehind old new (picked passes becomes (members_view l))) (take_all i from past) f

  -- a member that passes or does not
  pub picked_either : (old now new from : List Member) (i : ℕ) (m : Member) → i < length from → m ≡ get_or from i m → PutsBehind old now (picked passes becomes (members_view (take i from)))
      → PutsBehind now new (if passes m.key then member m.key (becomes (view m.value)) no_members else no_members) → PutsBehind old new (picked passes becomes (members_view (take (i + 1) from)))
  picked_either old now new from i m within is f g = next old new from i m within is (adds_both old now new _ _ f g)

pub none_at : (l : List Member) → l ≡ [] → MembersAreSortedOf no_members (members_view l)
none_at l e = subst (λ (k : List Member). MembersAreSortedOf no_members (members_view k)) (sym e) refl

pub picked_same : (p q : List ℕ → Bool) (g : Json → Json) → ((key : List ℕ) → p key ≡ q key) → (ms : Members Number) → picked p g ms ≡ picked q g ms
picked_same p q g h no_members = refl
picked_same p q g h (member key v ms) =
    ap (λ (b : Bool). if b then member key (g v) (picked p g ms) else picked p g ms) (h key)
    ∙ ap (λ (rest : Members Number). if q key then member key (g v) rest else rest) (picked_same p q g h ms)

-- the members of a printed relationship
abbrev pub printed_link : (id name source target : List ℕ) → Members Number → Members Number
printed_link id name source target ms =
    member (codes "$relationshipId") (text id) (member (codes "$relationshipName") (text name) (member (codes "$sourceId") (text source) (member (codes "$targetId") (text target) ms)))
