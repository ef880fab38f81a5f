-- From the walk over one interface to the first breach of a document.
use Rattle.std.proofs.Common.{◌≡◌, ℕ, ◌+◌, ◌<◌, ◌⊎◌, ◌↔◌, inl, inr, List, [], ◌∷◌, ◌++◌, reverse, true, nat_cmp, Option, Some, None, Result, sym, ap, subst, ◌∙◌, arith, true≢false}
use Rattle.std.specs.Result.{IfOk}
use Rattle.std.specs.List.{list_any}
use Rattle.std.specs.Borrow.{Bor}
use Rattle.std.specs.Cmp.Lexicographic.{slice_cmp}
use Rattle.std.specs.BTreeSet.{BTreeSet, IsEmpty}
use Rattle.std.specs.BTreeMap.{is_at}
use Rattle.std.proofs.lemmas.List.{reverse-append}
use Rattle.std.proofs.lemmas.Bool.{cases_lt}
use Rattle.json_decimal.specs.Number.{Number}
use Rattle.json_tree.specs.Values.{Json, text, array, object, Elements, Members}
use Rattle.json_tree.specs.Places.{IsPart, element_at}
use Rattle.json_tree.specs.Members.{members_in}
use Rattle.local_rules.specs.Breaches.{Breaks, BreaksBySchemas, IsEarlierId, IsBroken, IsBreach, ComesBefore}
use Rattle.local_rules.specs.Machinery.Marks.{HasMarkedRole, interface_role}
use Rattle.local_rules.specs.declared.marks.MarkedRole.{MarkedRole}
use Rattle.local_rules.specs.declared.rule.LocalRule.{LocalRule}
use Rattle.local_faults.specs.declared.walk.Found.{Found}
use Rattle.local_faults.specs.Machinery.Walks.{BreaksMarked, IsNoted, HasIdBefore, IsBrokenFrom, FindsFirst, Walks}
use Rattle.local_faults.proofs.Rules.{id_along}
use Rattle.local_faults.proofs.Marked.{role_of_marked, marked_of_role, mark_breaks, place_breaks}
use Rattle.local_faults.proofs.Walked.{first_along, comes_before}

abbrev Ids : Type 0
Ids = BTreeSet (Bor (List ℕ))

-- ---- an interface
none_in_empty : (bytes : List ℕ) (keys : List (Bor (List ℕ))) → keys ≡ [] → list_any (is_at (λ (id : Bor (List ℕ)). slice_cmp nat_cmp bytes id.now)) keys ≡ true → ⊥
none_in_empty bytes keys e h =
    let f : list_any (is_at (λ (id : Bor (List ℕ)). slice_cmp nat_cmp bytes id.now)) [] ≡ true =
    subst (λ (ks : List (Bor (List ℕ))). list_any (is_at (λ (id : Bor (List ℕ)). slice_cmp nat_cmp bytes id.now)) ks ≡ true) e h in
    true≢false (sym f)

no_text : (ids : Ids) → IsEmpty ids → (bytes : List ℕ) → IsNoted ids bytes → ⊥
no_text ids empty bytes h = none_in_empty bytes ids.keys empty h.among

earlier_id : (ids : Ids) → IsEmpty ids → (v : Json) (place : List ℕ) (bytes : List ℕ) → IsNoted ids bytes ⊎ HasIdBefore interface_role v place bytes → IsEarlierId v place bytes
earlier_id ids empty v place bytes (inl h) = absurd (no_text ids empty bytes h)
earlier_id ids empty v place bytes (inr h) = (h.earlier, h.within.role, h.before, role_of_marked interface_role v h.earlier h.within (text bytes) h.stands, h.is_id)

id_before : (ids : Ids) (v : Json) (place : List ℕ) (bytes : List ℕ) → IsEarlierId v place bytes → IsNoted ids bytes ⊎ HasIdBefore interface_role v place bytes
id_before ids v place bytes h =
    let there = marked_of_role interface_role v h.0 h.1 (text bytes) h.3 in
    inr (record { earlier = h.0; within = record { role = h.1; mark = there.0 }; before = h.2; stands = there.1; is_id = h.4 })

-- what a value in a marked role breaks is what it breaks at its place
to_place : (ms : Members Number) (P : List ℕ → Type 0) (v : Json) (place : List ℕ) → ms ≡ members_in v → ((bytes : List ℕ) → P bytes → IsEarlierId v place bytes)
    → (broken : LocalRule) (r : MarkedRole) (w : Json) → HasMarkedRole interface_role v place r w → BreaksMarked ms P broken r w → Breaks v place broken r.role w
to_place ms P v place e f broken r w stands (inl (inl b)) = inl b
to_place ms P v place e f broken r w stands (inl (inr b)) = inr (inl (mark_breaks v place r w broken stands b))
to_place ms P v place e f broken r w stands (inr (inl b)) = inr (inr (inl (subst (λ (ns : Members Number). BreaksBySchemas ns broken r.role w) e b)))
to_place ms P v place e f broken r w stands (inr (inr b)) = inr (inr (inr (id_along P (IsEarlierId v place) f broken r.role w b)))

from_place : (ms : Members Number) (P : List ℕ → Type 0) (v : Json) (place : List ℕ) → ms ≡ members_in v → ((bytes : List ℕ) → IsEarlierId v place bytes → P bytes)
    → (broken : LocalRule) (r : MarkedRole) (w : Json) → HasMarkedRole interface_role v place r w → Breaks v place broken r.role w → BreaksMarked ms P broken r w
from_place ms P v place e f broken r w stands (inl b) = inl (inl b)
from_place ms P v place e f broken r w stands (inr (inl b)) = inl (inr (place_breaks v place r w broken stands b))
from_place ms P v place e f broken r w stands (inr (inr (inl b))) = inr (inl (subst (λ (ns : Members Number). BreaksBySchemas ns broken r.role w) (sym e) b))
from_place ms P v place e f broken r w stands (inr (inr (inr b))) = inr (inr (id_along (IsEarlierId v place) P f broken r.role w b))

-- what the walk finds from the start is what an interface breaks
pub broken_whole : (ms : Members Number) (ids : Ids) → IsEmpty ids → (v : Json) → ms ≡ members_in v → (place : List ℕ) (broken : LocalRule)
    → IsBrokenFrom ms (IsNoted ids) interface_role v place broken ↔ IsBroken v place broken
broken_whole ms ids empty v e place broken = (
  λ b. (
    b.within.role,
    b.part,
    role_of_marked interface_role v place b.within b.part b.stands,
    to_place ms _ v place e (earlier_id ids empty v place) broken b.within b.part b.stands b.breaks,
  ),
  λ b. (let there = marked_of_role interface_role v place b.0 b.1 b.2 in
      let r : MarkedRole = record { role = b.0; mark = there.0 } in
      record {
        within = r;
        part = b.1;
        stands = there.1;
        breaks = from_place ms (λ bytes. IsNoted ids bytes ⊎ HasIdBefore interface_role v place bytes) v place e (id_before ids v place) broken r b.1 there.1 b.3;
      }),
)

pub whole : (ms : Members Number) (before after : Ids) → IsEmpty before → (v : Json) → ms ≡ members_in v → (r : MarkedRole) → r ≡ interface_role → (found : Option Found)
    → Walks ms before after r v found → FindsFirst (IsBroken v) found
whole ms before after empty v e r same found w =
    let walked = subst (λ (s : MarkedRole). Walks ms before after s v found) same w in
    first_along _ _ (broken_whole ms before empty v e) found walked.first

-- ---- a list of interfaces
pub record IsClearTo (vs : Elements Number) (at : ℕ) : Type 0 where
  pub clear : (position : ℕ) (place : List ℕ) (broken : LocalRule) → position < at → IsBreach (array vs) (position ∷ place) broken → ⊥

pub clear_start : (vs : Elements Number) → IsClearTo vs 0
clear_start vs = record { clear = λ position place broken less b. omega (arith, less) }

one_interface : (vs : Elements Number) (i : ℕ) (a b : Json) → element_at vs i ≡ Some a → element_at vs i ≡ Some b → a ≡ b
one_interface vs i a b p q = let e : Some a ≡ Some b = sym p ∙ q in cc

breach_in : (vs : Elements Number) (at : ℕ) (interface : Json) → element_at vs at ≡ Some interface → (place : List ℕ) (broken : LocalRule)
    → IsBreach (array vs) (at ∷ place) broken → IsBroken interface place broken
breach_in vs at interface p place broken b = subst (λ (v : Json). IsBroken v place broken) (one_interface vs at b.0 interface b.1 p) b.2

clear_at : (vs : Elements Number) (at position : ℕ) (place : List ℕ) (broken : LocalRule) → IsBreach (array vs) (position ∷ place) broken → position ≡ at → IsBreach (array vs) (at ∷ place) broken
clear_at vs at position place broken b e = subst (λ (i : ℕ). IsBreach (array vs) (i ∷ place) broken) e b

pub clear_next : (vs : Elements Number) (at : ℕ) (interface : Json) (found : Option Found) → IsClearTo vs at → element_at vs at ≡ Some interface
    → FindsFirst (IsBroken interface) found → found ≡ None → IsClearTo vs (at + 1)
clear_next vs at interface found clear p first none = record {
  clear = λ position place broken less b. elim (cases_lt position at) [
    | inl l ↦ clear.clear position place broken l b
    | inr ge ↦ (let e : position ≡ at = omega (arith, less, ge) in
        let nothing : FindsFirst (IsBroken interface) None = subst (FindsFirst (IsBroken interface)) none first in
        nothing place broken (breach_in vs at interface p place broken (clear_at vs at position place broken b e)))
  ];
}

least_in : (vs : Elements Number) (at : ℕ) (interface : Json) → IsClearTo vs at → element_at vs at ≡ Some interface → (place : List ℕ) (broken : LocalRule)
    → ((other : List ℕ) (another : LocalRule) → ComesBefore other another place broken → IsBroken interface other another → ⊥)
    → (other : List ℕ) (another : LocalRule) → ComesBefore other another (at ∷ place) broken → IsBreach (array vs) other another → ⊥
least_in vs at interface clear p place broken least other another c b = elim (comes_before at place broken other another c) [
  | inl e ↦ subst (λ (o : List ℕ). IsBreach (array vs) o another) e b
  | inr h ↦ (let b2 = subst (λ (o : List ℕ). IsBreach (array vs) o another) h.2 b in elim h.3 [
    | inl less ↦ clear.clear h.0 h.1 another less b2
    | inr same ↦ least h.1 another same.1 (breach_in vs at interface p h.1 another (clear_at vs at h.0 h.1 another b2 same.0))
  ])
]

pub found_next : (vs : Elements Number) (at : ℕ) (interface : Json) (inner up : Found) (found : Option Found) → IsClearTo vs at → element_at vs at ≡ Some interface
    → FindsFirst (IsBroken interface) found → found ≡ Some inner
    → (up.steps.items ≡ inner.steps.items ++ at ∷ []) × (up.rule ≡ inner.rule) → FindsFirst (IsBreach (array vs)) (Some up)
found_next vs at interface inner up found clear p first some e =
    let here : FindsFirst (IsBroken interface) (Some inner) = subst (FindsFirst (IsBroken interface)) some first in
    let way : at ∷ reverse inner.steps.items ≡ reverse up.steps.items = sym (reverse-append inner.steps.items (at ∷ [])) ∙ ap reverse (sym e.0) in
    let breach : IsBreach (array vs) (at ∷ reverse inner.steps.items) inner.rule = (interface, p, here.breach) in
    let least = least_in vs at interface clear p (reverse inner.steps.items) inner.rule here.least in
    record {
      breach = subst (λ (steps : List ℕ). IsBreach (array vs) steps up.rule) way (subst (λ (r : LocalRule). IsBreach (array vs) (at ∷ reverse inner.steps.items) r) (sym e.1) breach);
      least = λ other another c. least other another
          (subst (λ (r : LocalRule). ComesBefore other another (at ∷ reverse inner.steps.items) r) e.1 (subst (λ (steps : List ℕ). ComesBefore other another steps up.rule) (sym way) c));
    }

pub clear_whole : (vs : Elements Number) (n : ℕ) → IsClearTo vs n → ((i : ℕ) (part : Json) → IsPart (array vs) i part → i < n) → FindsFirst (IsBreach (array vs)) None
clear_whole vs n clear within [] broken b = b
clear_whole vs n clear within (i ∷ place) broken b = clear.clear i place broken (within i b.0 b.1) b

-- ---- by the kind of a document
pub in_array : {E : Type 0} (v : Json) (vs : Elements Number) → v ≡ array vs → (result : Result (Option Found) E) → IfOk result (FindsFirst (IsBreach (array vs))) → IfOk result (FindsFirst (IsBreach v))
in_array v vs e result ok = subst (λ (w : Json). IfOk result (FindsFirst (IsBreach w))) (sym e) ok

pub in_object : {E : Type 0} (v : Json) (ms : Members Number) → v ≡ object ms → (result : Result (Option Found) E) → IfOk result (FindsFirst (IsBroken v)) → IfOk result (FindsFirst (IsBreach v))
in_object v ms e result ok =
    let here : IfOk result (FindsFirst (IsBroken (object ms))) = subst (λ (w : Json). IfOk result (FindsFirst (IsBroken w))) e ok in
    subst (λ (w : Json). IfOk result (FindsFirst (IsBreach w))) (sym e) here
