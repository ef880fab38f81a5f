-- Bytes have one fault or spell a value, and not both.
use Rattle.std.proofs.Common.{◌≡◌, ℕ, zero, suc, ◌+◌, ◌<◌, ◌⊎◌, inl, inr, List, [], ◌∷◌, ◌++◌, take, drop, Some, append_assoc, refl, sym, ap, ◌∙◌, subst, arith}
use Rattle.std.proofs.lemmas.List.{take-append-drop}
use Rattle.std.proofs.lemmas.Bool.{cases_order}
use Rattle.json_decimal.specs.Number.{Number}
use Rattle.json_tree.specs.declared.places.Place.{Place}
use Rattle.json_tree.specs.Values.{Value, Raw, Json, null, truth, number, text, array, object, Elements, no_elements, element, Members, no_members, member, LacksKey, HasDistinctKeys, ElementsHaveDistinctKeys, MembersHaveDistinctKeys, IsInRange, IsReadAs, ElementsAreReadAs, MembersAreReadAs}
use Rattle.json_tree.specs.Grammar.{IsText, Spells}
use Rattle.json_tree.specs.Places.{element_at, member_at, IsPart}
use Rattle.json_read.specs.declared.fault.JsonFault.{JsonFault}
use Rattle.json_read.specs.declared.fault.JsonFault.TheVariants as faults
use Rattle.json_read.specs.Faults.{IsFirstWrongByte, IsCutShortText, RepeatsKey, IsDuplicateAt, IsRangeAt, IsFirstFaulty, IsFault}
use Rattle.json_read.proofs.OneValue.{OneNumber}
use Rattle.json_read.proofs.Duplicates.{duplicate_root, duplicate_down}
use Rattle.json_read.proofs.Ranges.{range_down}
use Rattle.json_tree.proofs.Preorder.{before_cases}
use Rattle.json_read.proofs.ValueSpans.{not_out}
use Rattle.json_read.proofs.Spelled.{not_wrong, one_raw}

-- ---- a key that stands twice
lacked : {N : Type 0} (key : List ℕ) (ms : Members N) → LacksKey key ms → (i : ℕ) (v : Value N) → member_at ms i ≡ Some (key, v) → ⊥
lacked key no_members h i v e = absurd cc
lacked {N} key (member k w ms) h zero v e =
    let f : (k, w) ≡ (key, v) = cc in
    h.0 (sym (ap (λ (m : List ℕ × Value N). m.0) f))
lacked key (member k w ms) h (suc i) v e = lacked key ms h.1 i v e

repeated : {N : Type 0} (ms : Members N) → MembersHaveDistinctKeys ms → (key : List ℕ) (v w : Value N) (i j : ℕ)
    → member_at ms i ≡ Some (key, v) → j < i → member_at ms j ≡ Some (key, w) → ⊥
repeated no_members h key v w i j e lt f = absurd cc
repeated (member k x ms) h key v w zero j e lt f = omega (arith, lt)
repeated {N} (member k x ms) h key v w (suc i) zero e lt f =
    let g : (k, x) ≡ (key, w) = cc in
    lacked k ms h.0 i v (e ∙ ap (λ (q : List ℕ). Some (q, v)) (sym (ap (λ (m : List ℕ × Value N). m.0) g)))
repeated (member k x ms) h key v w (suc i) (suc j) e lt f = repeated ms h.2 key v w i j e (omega (arith, lt)) f

no_repeat : {N : Type 0} (v : Value N) → HasDistinctKeys v → (i : ℕ) → RepeatsKey v i → ⊥
no_repeat null h i r = r
no_repeat (truth b) h i r = r
no_repeat (number n) h i r = r
no_repeat (text t) h i r = r
no_repeat (array vs) h i r = r
no_repeat (object ms) h i (key, v, w, j, e, lt, f) = repeated ms h key v w i j e lt f

element_distinct : {N : Type 0} (vs : Elements N) → ElementsHaveDistinctKeys vs → (i : ℕ) (part : Value N) → element_at vs i ≡ Some part → HasDistinctKeys part
element_distinct no_elements h i part e = absurd cc
element_distinct {N} (element v vs) h zero part e = let f : v ≡ part = cc in subst (λ (w : Value N). HasDistinctKeys w) f h.0
element_distinct (element v vs) h (suc i) part e = element_distinct vs h.1 i part e

member_distinct : {N : Type 0} (ms : Members N) → MembersHaveDistinctKeys ms → (i : ℕ) (key : List ℕ) (part : Value N) → member_at ms i ≡ Some (key, part)
    → HasDistinctKeys part
member_distinct no_members h i key part e = absurd cc
member_distinct {N} (member k v ms) h zero key part e =
    let f : (k, v) ≡ (key, part) = cc in
    subst (λ (w : Value N). HasDistinctKeys w) (ap (λ (m : List ℕ × Value N). m.1) f) h.1
member_distinct (member k v ms) h (suc i) key part e = member_distinct ms h.2 i key part e

part_distinct : {N : Type 0} (v : Value N) → HasDistinctKeys v → (i : ℕ) (part : Value N) → IsPart v i part → HasDistinctKeys part
part_distinct null h i part p = absurd p
part_distinct (truth b) h i part p = absurd p
part_distinct (number n) h i part p = absurd p
part_distinct (text t) h i part p = absurd p
part_distinct (array vs) h i part p = element_distinct vs h i part p
part_distinct (object ms) h i part p = member_distinct ms h i p.0 part p.1

no_duplicate : {N : Type 0} (place : List ℕ) (v : Value N) → HasDistinctKeys v → IsDuplicateAt v place → ⊥
no_duplicate [] v h d = duplicate_root v d
no_duplicate (i ∷ place) v h d = elim (duplicate_down v i place d) [
  | inl q ↦ no_repeat v h i q.1
  | inr q ↦ no_duplicate place q.0 (part_distinct v h i q.0 q.1) q.2
]

-- ---- a number that is out of range
element_read : (vs : Elements (List ℕ)) (ws : Elements Number) → ElementsAreReadAs vs ws → (i : ℕ) (part : Raw) → element_at vs i ≡ Some part
    → (w : Json) × IsReadAs part w
element_read no_elements ws h i part e = absurd cc
element_read (element v vs) ws (x, xs, h, hs, same) zero part e = (x, let f : v ≡ part = cc in subst (λ (r : Raw). IsReadAs r x) f h)
element_read (element v vs) ws (x, xs, h, hs, same) (suc i) part e = element_read vs xs hs i part e

member_read : (ms : Members (List ℕ)) (ns : Members Number) → MembersAreReadAs ms ns → (i : ℕ) (key : List ℕ) (part : Raw) → member_at ms i ≡ Some (key, part)
    → (w : Json) × IsReadAs part w
member_read no_members ns h i key part e = absurd cc
member_read (member k v ms) ns (x, xs, h, hs, same) zero key part e =
    let f : (k, v) ≡ (key, part) = cc in
    (x, subst (λ (r : Raw). IsReadAs r x) (ap (λ (m : List ℕ × Raw). m.1) f) h)
member_read (member k v ms) ns (x, xs, h, hs, same) (suc i) key part e = member_read ms xs hs i key part e

part_read : (raw : Raw) (w : Json) → IsReadAs raw w → (i : ℕ) (part : Raw) → IsPart raw i part → (x : Json) × IsReadAs part x
part_read null w h i part p = absurd p
part_read (truth b) w h i part p = absurd p
part_read (number l) w h i part p = absurd p
part_read (text t) w h i part p = absurd p
part_read (array vs) w h i part p = element_read vs h.0 h.1 i part p
part_read (object ms) w h i part p = member_read ms h.0 h.1 i p.0 part p.1

no_range : OneNumber → (place : List ℕ) (raw : Raw) (w : Json) → IsReadAs raw w → IsRangeAt raw place → ⊥
no_range one [] raw w h (l, n, e, is, out) =
    let k = subst (λ (r : Raw). IsReadAs r w) e h in
    not_out n (subst IsInRange (one l k.0 n k.1 is) k.2) out
no_range one (i ∷ place) raw w h r =
    let d = range_down raw i place r in
    let p = part_read raw w h i d.0 d.1 in
    no_range one place d.0 p.0 p.1 d.2

-- ---- a fault or a value
pub fault_or_value : OneNumber → (bytes : List ℕ) (fault : JsonFault) (value : Json) → IsFault bytes fault → (fault ≡ faults.OutOfMemory → ⊥)
    → Spells bytes value → ⊥
fault_or_value one bytes (faults.Byte at) value h some s = not_wrong bytes s.0 at s.1 h
fault_or_value one bytes (faults.Ends at) value h some s = h.0.none s.0 s.1
fault_or_value one bytes (faults.Duplicate place) value (raw, is, at, first) some s =
    no_duplicate place.steps s.0 s.2 (subst (λ (r : Raw). IsDuplicateAt r place.steps) (one_raw bytes raw s.0 is s.1) at)
fault_or_value one bytes (faults.Range place) value (raw, is, at, new, first) some s =
    no_range one place.steps s.0 value s.3 (subst (λ (r : Raw). IsRangeAt r place.steps) (one_raw bytes raw s.0 is s.1) at)
fault_or_value one bytes faults.OutOfMemory value h some s = some refl

-- ---- one fault
not_cut : (bytes : List ℕ) (at : ℕ) → IsFirstWrongByte bytes at → IsCutShortText bytes → ⊥
not_cut bytes at h k = h.dead (
  drop (at + 1) bytes ++ k.viable.0,
  k.viable.1,
  subst (λ (b : List ℕ). IsText b k.viable.1)
      (ap (λ (b : List ℕ). b ++ k.viable.0) (sym (take-append-drop (at + 1) bytes)) ∙ append_assoc (take (at + 1) bytes) (drop (at + 1) bytes) k.viable.0)
      k.viable.2,
)

one_wrong : (bytes : List ℕ) (at other : ℕ) → IsFirstWrongByte bytes at → IsFirstWrongByte bytes other → at ≡ other
one_wrong bytes at other h k = elim (cases_order at other) [
  | inl e ↦ e
  | inr (inl lt) ↦ absurd (h.dead (k.least at lt))
  | inr (inr lt) ↦ absurd (k.dead (h.least other lt))
]

one_place : (raw : Raw) (place other : List ℕ) → IsFirstFaulty raw place → IsFirstFaulty raw other → IsDuplicateAt raw place ⊎ IsRangeAt raw place
    → IsDuplicateAt raw other ⊎ IsRangeAt raw other → place ≡ other
one_place raw place other h k here there = elim (before_cases place other) [
  | inl e ↦ e
  | inr (inl lt) ↦ absurd (k place lt here)
  | inr (inr lt) ↦ absurd (h other lt there)
]

make_place : List ℕ → Place
make_place steps = record { steps = steps }

same_place : (p q : Place) → p.steps ≡ q.steps → p ≡ q
unfolding make_place
same_place p q e = ap (λ (s : List ℕ). make_place s) e

duplicates : (bytes : List ℕ) (p q : Place) → IsFault bytes (faults.Duplicate p) → IsFault bytes (faults.Duplicate q) → p ≡ q
duplicates bytes p q (raw, is, at, first) (other, is2, at2, first2) =
    let e = one_raw bytes raw other is is2 in
    same_place p q (one_place other p.steps q.steps (subst (λ (r : Raw). IsFirstFaulty r p.steps) e first) first2
    (inl (subst (λ (r : Raw). IsDuplicateAt r p.steps) e at)) (inl at2))

ranges : (bytes : List ℕ) (p q : Place) → IsFault bytes (faults.Range p) → IsFault bytes (faults.Range q) → p ≡ q
ranges bytes p q (raw, is, at, new, first) (other, is2, at2, new2, first2) =
    let e = one_raw bytes raw other is is2 in
    same_place p q (one_place other p.steps q.steps (subst (λ (r : Raw). IsFirstFaulty r p.steps) e first) first2
    (inr (subst (λ (r : Raw). IsRangeAt r p.steps) e at)) (inr at2))

-- at one place a key that stands twice wins
not_both : (bytes : List ℕ) (p q : Place) → IsFault bytes (faults.Duplicate p) → IsFault bytes (faults.Range q) → ⊥
not_both bytes p q (raw, is, at, first) (other, is2, at2, new2, first2) =
    let e = one_raw bytes raw other is is2 in
    let here = subst (λ (r : Raw). IsDuplicateAt r p.steps) e at in
    let same = one_place other p.steps q.steps (subst (λ (r : Raw). IsFirstFaulty r p.steps) e first) first2 (inl here) (inr at2) in
    new2 (subst (λ (s : List ℕ). IsDuplicateAt other s) same here)

pub one_fault : (bytes : List ℕ) (fault other : JsonFault) → IsFault bytes fault → IsFault bytes other
    → (fault ≡ faults.OutOfMemory → ⊥) → (other ≡ faults.OutOfMemory → ⊥) → fault ≡ other
one_fault bytes faults.OutOfMemory other h k some more = absurd (some refl)
one_fault bytes fault faults.OutOfMemory h k some more = absurd (more refl)
one_fault bytes (faults.Byte at) (faults.Byte next) h k some more = ap (λ (n : ℕ). faults.Byte n) (one_wrong bytes at next h k)
one_fault bytes (faults.Byte at) (faults.Ends n) h k some more = absurd (not_cut bytes at h k.0)
one_fault bytes (faults.Byte at) (faults.Duplicate q) h k some more = absurd (not_wrong bytes k.0 at k.1 h)
one_fault bytes (faults.Byte at) (faults.Range q) h k some more = absurd (not_wrong bytes k.0 at k.1 h)
one_fault bytes (faults.Ends n) (faults.Byte at) h k some more = absurd (not_cut bytes at k h.0)
one_fault bytes (faults.Ends n) (faults.Ends m) h k some more = ap (λ (i : ℕ). faults.Ends i) (h.1 ∙ sym k.1)
one_fault bytes (faults.Ends n) (faults.Duplicate q) h k some more = absurd (h.0.none k.0 k.1)
one_fault bytes (faults.Ends n) (faults.Range q) h k some more = absurd (h.0.none k.0 k.1)
one_fault bytes (faults.Duplicate p) (faults.Byte at) h k some more = absurd (not_wrong bytes h.0 at h.1 k)
one_fault bytes (faults.Duplicate p) (faults.Ends n) h k some more = absurd (k.0.none h.0 h.1)
one_fault bytes (faults.Duplicate p) (faults.Duplicate q) h k some more = ap (λ (r : Place). faults.Duplicate r) (duplicates bytes p q h k)
one_fault bytes (faults.Duplicate p) (faults.Range q) h k some more = absurd (not_both bytes p q h k)
one_fault bytes (faults.Range p) (faults.Byte at) h k some more = absurd (not_wrong bytes h.0 at h.1 k)
one_fault bytes (faults.Range p) (faults.Ends n) h k some more = absurd (k.0.none h.0 h.1)
one_fault bytes (faults.Range p) (faults.Duplicate q) h k some more = absurd (not_both bytes q p k h)
one_fault bytes (faults.Range p) (faults.Range q) h k some more = ap (λ (r : Place). faults.Range r) (ranges bytes p q h k)
