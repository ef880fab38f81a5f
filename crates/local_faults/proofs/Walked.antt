-- The walk over the parts of a value, from left to right.
use Rattle.std.proofs.Common.{◌≡◌, ℕ, ◌+◌, ◌<◌, ◌⊎◌, ◌↔◌, inl, inr, List, [], ◌∷◌, ◌++◌, reverse, Option, Some, None, refl, sym, subst, ◌∙◌, arith}
use Rattle.std.specs.Borrow.{Bor}
use Rattle.std.specs.BTreeSet.{BTreeSet}
use Rattle.std.proofs.lemmas.List.{reverse-append}
use Rattle.std.proofs.lemmas.Bool.{cases_lt}
use Rattle.json_decimal.specs.Number.{Number}
use Rattle.json_tree.specs.Values.{Json, text, Members}
use Rattle.json_tree.specs.Places.{IsPart}
use Rattle.local_rules.specs.Codes.{rule_number}
use Rattle.local_rules.specs.Machinery.Marks.{HasMarkedRole, part_marked}
use Rattle.local_rules.specs.Identifiers.{IsIdRole}
use Rattle.local_rules.specs.Breaches.{ComesBefore}
use Rattle.local_rules.specs.declared.rule.LocalRule.{LocalRule}
use Rattle.local_rules.specs.declared.marks.MarkedRole.{MarkedRole}
use Rattle.local_faults.specs.declared.walk.Found.{Found}
use Rattle.local_faults.specs.Machinery.Walks.{BreaksMarked, HasIdInside, HasIdInPartBefore, IsBrokenFrom, IsFirstBroken, FindsFirst, IsNoted, Walks, WalksPart, IsWalkedTo, IsClearHere, IsId, JudgesMarked}
use Rattle.local_faults.proofs.Rules.{breaks_along}
use Rattle.local_faults.proofs.Steps.{one_part, one_role, Before, broken_down, broken_up, broken_along, broken_here, is_broken_here}

abbrev Ids : Type 0
Ids = BTreeSet (Bor (List ℕ))

-- ---- at the start
none_before : (r : MarkedRole) (v : Json) (bytes : List ℕ) → HasIdInPartBefore r v 0 bytes → ⊥
none_before r v bytes h = let less = h.less in omega (arith, less)

pub walked_start : (ms : Members Number) (before : Ids) (r : MarkedRole) (v : Json) → IsWalkedTo ms before before r v 0
walked_start ms before r v = record {
  clear = λ position place broken less b. omega (arith, less);
  ids = λ bytes. (λ h. inl h, λ e. elim e [ inl h ↦ h | inr h ↦ absurd (none_before r v bytes h) ]);
}

-- ---- a part with a breach
reverse_more : (up : List ℕ) (i : ℕ) → reverse (up ++ i ∷ []) ≡ i ∷ reverse up
reverse_more up i = reverse-append up (i ∷ [])

-- what comes before a breach in a part stands at the value, in an earlier part, or before it in this one
pub comes_before : (at : ℕ) (place : List ℕ) (broken : LocalRule) (other : List ℕ) (another : LocalRule) → ComesBefore other another (at ∷ place) broken
    → (other ≡ []) ⊎ ((j : ℕ) × (below : List ℕ) × (other ≡ j ∷ below) × ((j < at) ⊎ ((j ≡ at) × ComesBefore below another place broken)))
comes_before at place broken [] another c = inl refl
comes_before at place broken (j ∷ below) another (inl (inl less)) = inr (j, below, refl, inl less)
comes_before at place broken (j ∷ below) another (inl (inr same)) = inr (j, below, refl, inr (same.0, inl same.1))
comes_before at place broken (j ∷ below) another (inr same) =
    let e : j ∷ below ≡ at ∷ place = same.0 in
    let one : j ≡ at = cc in
    let two : below ≡ place = cc in
    inr (j, below, refl, inr (one, inr (two, same.1)))

part_least : (ms : Members Number) (before now : Ids) (r : MarkedRole) (v : Json) (at : ℕ) (s : MarkedRole) (part : Json) → IsWalkedTo ms before now r v at → IsClearHere ms before r v
    → IsPart v at part → part_marked r v at ≡ Some s → (place : List ℕ) (broken : LocalRule)
    → ((other : List ℕ) (another : LocalRule) → ComesBefore other another place broken → IsBrokenFrom ms (IsNoted now) s part other another → ⊥)
    → (other : List ℕ) (another : LocalRule) → ComesBefore other another (at ∷ place) broken → IsBrokenFrom ms (IsNoted before) r v other another → ⊥
part_least ms before now r v at s part walked here p pr place broken least other another c b = elim (comes_before at place broken other another c) [
  | inl e ↦ here another (is_broken_here ms (IsNoted before) r v another (subst (λ (o : List ℕ). IsBrokenFrom ms (IsNoted before) r v o another) e b))
  | inr h ↦ elim h.3 [
    | inl less ↦ walked.clear h.0 h.1 another less (subst (λ (o : List ℕ). IsBrokenFrom ms (IsNoted before) r v o another) h.2 b)
    | inr same ↦ (let b2 = subst (λ (o : List ℕ). IsBrokenFrom ms (IsNoted before) r v o another) h.2 b in
        let b3 = subst (λ (j : ℕ). IsBrokenFrom ms (IsNoted before) r v (j ∷ h.1) another) same.0 b2 in
        let d = broken_down ms (IsNoted before) r v at h.1 another b3 in
        let one = one_role r v at d.0 s d.3 pr in
        let two = one_part v at d.1 part d.2 p in
        let d2 = subst (λ (t : MarkedRole). IsBrokenFrom ms (Before (IsNoted before) r v at) t d.1 h.1 another) one d.4 in
        let d3 = subst (λ (w : Json). IsBrokenFrom ms (Before (IsNoted before) r v at) s w h.1 another) two d2 in
        least h.1 another same.1 (broken_along ms _ _ (λ bytes. (walked.ids bytes).1) s part h.1 another d3))
  ]
]

found_in : (ms : Members Number) (before now : Ids) (r : MarkedRole) (v : Json) (at : ℕ) (s : MarkedRole) (part : Json) → IsWalkedTo ms before now r v at → IsClearHere ms before r v
    → IsPart v at part → part_marked r v at ≡ Some s → (up : List ℕ) (broken : LocalRule)
    → IsFirstBroken (IsBrokenFrom ms (IsNoted now) s part) up broken → IsFirstBroken (IsBrokenFrom ms (IsNoted before) r v) (up ++ at ∷ []) broken
found_in ms before now r v at s part walked here p pr up broken first = record {
  breach = subst (λ (o : List ℕ). IsBrokenFrom ms (IsNoted before) r v o broken) (sym (reverse_more up at))
      (broken_up ms (IsNoted before) r v at (reverse up) broken s part p pr (broken_along ms _ _ (λ bytes. (walked.ids bytes).0) s part (reverse up) broken first.breach));
  least = λ other another c. part_least ms before now r v at s part walked here p pr (reverse up) broken first.least other another
      (subst (λ (o : List ℕ). ComesBefore other another o broken) (reverse_more up at) c);
}

pub part_found : (ms : Members Number) (before now after : Ids) (r : MarkedRole) (v : Json) (at : ℕ) (s : Option MarkedRole) (part : Json) (found : Found)
    → IsWalkedTo ms before now r v at → IsClearHere ms before r v → IsPart v at part → part_marked r v at ≡ s
    → WalksPart ms now after s part (Some found) → IsFirstBroken (IsBrokenFrom ms (IsNoted before) r v) (found.steps.items ++ at ∷ []) found.rule
part_found ms before now after r v at None part found walked here p pr w = let e = w.0 in absurd cc
part_found ms before now after r v at (Some s) part found walked here p pr w = found_in ms before now r v at s part walked here p pr found.steps.items found.rule w.first

-- ---- a part without
abbrev At : (ms : Members Number) (before : Ids) (r : MarkedRole) (v : Json) → List ℕ → LocalRule → ℕ → Type 0
At ms before r v place broken j = IsBrokenFrom ms (IsNoted before) r v (j ∷ place) broken

clear_role : (ms : Members Number) (before now : Ids) (r : MarkedRole) (v : Json) (at : ℕ) (s : MarkedRole) (part : Json) → IsWalkedTo ms before now r v at
    → IsPart v at part → part_marked r v at ≡ Some s → ((place : List ℕ) (broken : LocalRule) → IsBrokenFrom ms (IsNoted now) s part place broken → ⊥)
    → (place : List ℕ) (broken : LocalRule) → IsBrokenFrom ms (IsNoted before) r v (at ∷ place) broken → ⊥
clear_role ms before now r v at s part walked p pr none place broken b =
    let d = broken_down ms (IsNoted before) r v at place broken b in
    let one = one_role r v at d.0 s d.3 pr in
    let two = one_part v at d.1 part d.2 p in
    let d2 = subst (λ (t : MarkedRole). IsBrokenFrom ms (Before (IsNoted before) r v at) t d.1 place broken) one d.4 in
    let d3 = subst (λ (w : Json). IsBrokenFrom ms (Before (IsNoted before) r v at) s w place broken) two d2 in
    none place broken (broken_along ms _ _ (λ bytes. (walked.ids bytes).1) s part place broken d3)

clear_none : (ms : Members Number) (before : Ids) (r : MarkedRole) (v : Json) (at : ℕ) → part_marked r v at ≡ None
    → (place : List ℕ) (broken : LocalRule) → IsBrokenFrom ms (IsNoted before) r v (at ∷ place) broken → ⊥
clear_none ms before r v at pr place broken b =
    let d = broken_down ms (IsNoted before) r v at place broken b in
    let e : None ≡ Some d.0 = sym pr ∙ d.3 in
    absurd cc

clear_more : (ms : Members Number) (before : Ids) (r : MarkedRole) (v : Json) (at : ℕ)
    → ((position : ℕ) (place : List ℕ) (broken : LocalRule) → position < at → IsBrokenFrom ms (IsNoted before) r v (position ∷ place) broken → ⊥)
    → ((place : List ℕ) (broken : LocalRule) → IsBrokenFrom ms (IsNoted before) r v (at ∷ place) broken → ⊥)
    → (position : ℕ) (place : List ℕ) (broken : LocalRule) → position < at + 1 → IsBrokenFrom ms (IsNoted before) r v (position ∷ place) broken → ⊥
clear_more ms before r v at clear here position place broken less b = elim (cases_lt position at) [
  | inl l ↦ clear position place broken l b
  | inr ge ↦ (let e : position ≡ at = omega (arith, less, ge) in
      here place broken (subst (At ms before r v place broken) e b))
]

-- the `@id`s of one part more
id_later : (r : MarkedRole) (v : Json) (at : ℕ) (bytes : List ℕ) → HasIdInPartBefore r v at bytes → HasIdInPartBefore r v (at + 1) bytes
id_later r v at bytes h = let less = h.less in record {
  position = h.position;
  less = omega (arith, less);
  within = h.within;
  part = h.part;
  is_part = h.is_part;
  has_role = h.has_role;
  id = h.id;
}

id_earlier : (r : MarkedRole) (v : Json) (at : ℕ) (bytes : List ℕ) (h : HasIdInPartBefore r v (at + 1) bytes) → HasIdInPartBefore r v at bytes ⊎ (h.position ≡ at)
id_earlier r v at bytes h = elim (cases_lt h.position at) [
  | inl l ↦ inl (record { position = h.position; less = l; within = h.within; part = h.part; is_part = h.is_part; has_role = h.has_role; id = h.id })
  | inr ge ↦ (let less = h.less in inr (omega (arith, less, ge)))
]

id_in_part : (r : MarkedRole) (v : Json) (at : ℕ) (s : MarkedRole) (part : Json) (bytes : List ℕ) → IsPart v at part → part_marked r v at ≡ Some s
    → (h : HasIdInPartBefore r v (at + 1) bytes) → h.position ≡ at → HasIdInside s part bytes
id_in_part r v at s part bytes p pr h e =
    let one = one_role r v at h.within s (subst (λ (n : ℕ). part_marked r v n ≡ Some h.within) e h.has_role) pr in
    let two = one_part v at h.part part (subst (λ (n : ℕ). IsPart v n h.part) e h.is_part) p in
    subst (λ (w : Json). HasIdInside s w bytes) two (subst (λ (t : MarkedRole). HasIdInside t h.part bytes) one h.id)

no_id_in_part : (r : MarkedRole) (v : Json) (at : ℕ) (bytes : List ℕ) → part_marked r v at ≡ None → (h : HasIdInPartBefore r v (at + 1) bytes) → h.position ≡ at → ⊥
no_id_in_part r v at bytes pr h e =
    let f : None ≡ Some h.within = sym pr ∙ subst (λ (n : ℕ). part_marked r v n ≡ Some h.within) e h.has_role in
    absurd cc

ids_role : (ms : Members Number) (before now after : Ids) (r : MarkedRole) (v : Json) (at : ℕ) (s : MarkedRole) (part : Json) → IsWalkedTo ms before now r v at
    → IsPart v at part → part_marked r v at ≡ Some s → ((bytes : List ℕ) → IsNoted after bytes ↔ (IsNoted now bytes ⊎ HasIdInside s part bytes))
    → (bytes : List ℕ) → IsNoted after bytes ↔ (IsNoted before bytes ⊎ HasIdInPartBefore r v (at + 1) bytes)
ids_role ms before now after r v at s part walked p pr ids bytes = (
  λ h. elim ((ids bytes).0 h) [
    | inl old ↦ elim ((walked.ids bytes).0 old) [ inl a ↦ inl a | inr b ↦ inr (id_later r v at bytes b) ]
    | inr new ↦ inr (record { position = at; less = omega arith; within = s; part = part; is_part = p; has_role = pr; id = new })
  ],
  λ e. elim e [
    | inl a ↦ (ids bytes).1 (inl ((walked.ids bytes).1 (inl a)))
    | inr h ↦ elim (id_earlier r v at bytes h) [
      | inl b ↦ (ids bytes).1 (inl ((walked.ids bytes).1 (inr b)))
      | inr same ↦ (ids bytes).1 (inr (id_in_part r v at s part bytes p pr h same))
    ]
  ],
)

ids_none : (ms : Members Number) (before now : Ids) (r : MarkedRole) (v : Json) (at : ℕ) → IsWalkedTo ms before now r v at → part_marked r v at ≡ None
    → (bytes : List ℕ) → IsNoted now bytes ↔ (IsNoted before bytes ⊎ HasIdInPartBefore r v (at + 1) bytes)
ids_none ms before now r v at walked pr bytes = (
  λ h. elim ((walked.ids bytes).0 h) [ inl a ↦ inl a | inr b ↦ inr (id_later r v at bytes b) ],
  λ e. elim e [
    | inl a ↦ (walked.ids bytes).1 (inl a)
    | inr h ↦ elim (id_earlier r v at bytes h) [ inl b ↦ (walked.ids bytes).1 (inr b) | inr same ↦ absurd (no_id_in_part r v at bytes pr h same) ]
  ],
)

pub part_walked : (ms : Members Number) (before now after : Ids) (r : MarkedRole) (v : Json) (at : ℕ) (s : Option MarkedRole) (part : Json)
    → IsWalkedTo ms before now r v at → IsPart v at part → part_marked r v at ≡ s → WalksPart ms now after s part None → IsWalkedTo ms before after r v (at + 1)
part_walked ms before now after r v at None part walked p pr w = record {
  clear = clear_more ms before r v at walked.clear (clear_none ms before r v at pr);
  ids = subst (λ (t : Ids). (bytes : List ℕ) → IsNoted t bytes ↔ (IsNoted before bytes ⊎ HasIdInPartBefore r v (at + 1) bytes)) (sym w.1) (ids_none ms before now r v at walked pr);
}
part_walked ms before now after r v at (Some s) part walked p pr w = record {
  clear = clear_more ms before r v at walked.clear (clear_role ms before now r v at s part walked p pr w.first);
  ids = ids_role ms before now after r v at s part walked p pr (w.ids refl);
}

-- ---- at the end
nothing_at : (ms : Members Number) (before now : Ids) (r : MarkedRole) (v : Json) (n : ℕ) → IsWalkedTo ms before now r v n → IsClearHere ms before r v
    → ((i : ℕ) (part : Json) → IsPart v i part → i < n) → (place : List ℕ) (broken : LocalRule) → IsBrokenFrom ms (IsNoted before) r v place broken → ⊥
nothing_at ms before now r v n walked here within [] broken b = here broken (is_broken_here ms (IsNoted before) r v broken b)
nothing_at ms before now r v n walked here within (j ∷ place) broken b =
    let d = broken_down ms (IsNoted before) r v j place broken b in
    walked.clear j place broken (within j d.1 d.2) b

-- an `@id` of the value is it or stands in a part
id_inside : (r : MarkedRole) (v : Json) (n : ℕ) → ((i : ℕ) (part : Json) → IsPart v i part → i < n) → (bytes : List ℕ) (place : List ℕ) (q : MarkedRole)
    → HasMarkedRole r v place q (text bytes) → IsIdRole q.role → IsId r.role v bytes ⊎ HasIdInPartBefore r v n bytes
id_inside r v n within bytes [] q h id = inl (record { is_id = subst (λ (s : MarkedRole). IsIdRole s.role) (sym h.0) id; is_text = h.1 })
id_inside r v n within bytes (j ∷ place) q h id = inr (record {
  position = j;
  less = within j h.1 h.2;
  within = h.0;
  part = h.1;
  is_part = h.2;
  has_role = h.3;
  id = record { place = place; within = q; stands = h.4; is_id = id };
})

id_itself : (r : MarkedRole) (v : Json) (bytes : List ℕ) → IsId r.role v bytes → HasIdInside r v bytes
id_itself r v bytes h = record { place = []; within = r; stands = (refl, h.is_text); is_id = h.is_id }

id_of_part : (r : MarkedRole) (v : Json) (n : ℕ) (bytes : List ℕ) → HasIdInPartBefore r v n bytes → HasIdInside r v bytes
id_of_part r v n bytes h = record {
  place = h.position ∷ h.id.place;
  within = h.id.within;
  stands = (h.within, h.part, h.is_part, h.has_role, h.id.stands);
  is_id = h.id.is_id;
}

-- what is no text is no `@id`
abbrev pub IsNoText : Json → Type 0
IsNoText v = (bytes : List ℕ) → v ≡ text bytes → ⊥

ids_all : (ms : Members Number) (before now : Ids) (r : MarkedRole) (v : Json) (n : ℕ) → IsWalkedTo ms before now r v n → IsNoText v
    → ((i : ℕ) (part : Json) → IsPart v i part → i < n) → (bytes : List ℕ) → IsNoted now bytes ↔ (IsNoted before bytes ⊎ HasIdInside r v bytes)
ids_all ms before now r v n walked no_text within bytes = (
  λ h. elim ((walked.ids bytes).0 h) [ inl a ↦ inl a | inr b ↦ inr (id_of_part r v n bytes b) ],
  λ e. elim e [
    | inl a ↦ (walked.ids bytes).1 (inl a)
    | inr h ↦ elim (id_inside r v n within bytes h.place h.within h.stands h.is_id) [
      | inl i ↦ absurd (no_text bytes i.is_text)
      | inr b ↦ (walked.ids bytes).1 (inr b)
    ]
  ],
)

pub walked_all : (ms : Members Number) (before now : Ids) (r : MarkedRole) (v : Json) (n : ℕ) → IsWalkedTo ms before now r v n → IsClearHere ms before r v → IsNoText v
    → ((i : ℕ) (part : Json) → IsPart v i part → i < n) → Walks ms before now r v None
walked_all ms before now r v n walked here no_text within = record {
  first = nothing_at ms before now r v n walked here within;
  ids = λ e. ids_all ms before now r v n walked no_text within;
}

-- ---- the value itself first
judged_least : (ms : Members Number) (before : Ids) (r : MarkedRole) (v : Json) (broken : LocalRule) → ((other : LocalRule) → rule_number other < rule_number broken → BreaksMarked ms (IsNoted before) other r v → ⊥)
    → (other : List ℕ) (another : LocalRule) → ComesBefore other another [] broken → IsBrokenFrom ms (IsNoted before) r v other another → ⊥
judged_least ms before r v broken least other another (inl c) b = c
judged_least ms before r v broken least other another (inr c) b =
    least another c.1 (is_broken_here ms (IsNoted before) r v another (subst (λ (o : List ℕ). IsBrokenFrom ms (IsNoted before) r v o another) c.0 b))

pub judged : (ms : Members Number) (before after end : Ids) (r : MarkedRole) (v : Json) (found : Found) (broken : LocalRule) → JudgesMarked ms before after r v (Some broken)
    → found.steps.items ≡ [] → found.rule ≡ broken → Walks ms before end r v (Some found)
judged ms before after end r v found broken j empty same = record {
  first = subst (λ (up : List ℕ). IsFirstBroken (IsBrokenFrom ms (IsNoted before) r v) up found.rule) (sym empty)
      (subst (λ (b : LocalRule). IsFirstBroken (IsBrokenFrom ms (IsNoted before) r v) [] b) (sym same) (record {
        breach = broken_here ms (IsNoted before) r v broken j.first.0;
        least = judged_least ms before r v broken j.first.1;
      }));
  ids = λ e. absurd cc;
}

-- a leaf has no parts
pub walked_leaf : (ms : Members Number) (before after : Ids) (r : MarkedRole) (v : Json) → JudgesMarked ms before after r v None → ((i : ℕ) (part : Json) → IsPart v i part → ⊥)
    → Walks ms before after r v None
walked_leaf ms before after r v j leaf = record {
  first = nothing_at ms before before r v 0 (walked_start ms before r v) j.first (λ i part p. absurd (leaf i part p));
  ids = λ e bytes. (
    λ h. elim ((j.ids refl bytes).0 h) [ inl a ↦ inl a | inr b ↦ inr (id_itself r v bytes b) ],
    λ o. elim o [
      | inl a ↦ (j.ids refl bytes).1 (inl a)
      | inr h ↦ elim (id_inside r v 0 (λ i part p. absurd (leaf i part p)) bytes h.place h.within h.stands h.is_id) [
        | inl i ↦ (j.ids refl bytes).1 (inr i)
        | inr b ↦ absurd (none_before r v bytes b)
      ]
    ],
  );
}

-- a list or an object leaves the set as it is until its parts come
pub same_ids : (ms : Members Number) (before now : Ids) (r : MarkedRole) (v : Json) → JudgesMarked ms before now r v None → IsNoText v → (bytes : List ℕ) → IsNoted now bytes ↔ IsNoted before bytes
same_ids ms before now r v j no_text bytes =
    (λ h. elim ((j.ids refl bytes).0 h) [ inl a ↦ a | inr i ↦ absurd (no_text bytes i.is_text) ], λ a. (j.ids refl bytes).1 (inl a))

pub first_along : (B C : List ℕ → LocalRule → Type 0) → ((place : List ℕ) (broken : LocalRule) → B place broken ↔ C place broken) → (found : Option Found) → FindsFirst B found → FindsFirst C found
first_along B C same None none = λ place broken c. none place broken ((same place broken).1 c)
first_along B C same (Some found) first = record {
  breach = (same (reverse found.steps.items) found.rule).0 first.breach;
  least = λ other another c b. first.least other another c ((same other another).1 b);
}

pub here_after : (ms : Members Number) (before now : Ids) (r : MarkedRole) (v : Json) → JudgesMarked ms before now r v None → IsNoText v → IsClearHere ms now r v
here_after ms before now r v j no_text broken b = j.first broken (breaks_along ms _ _ (λ bytes. (same_ids ms before now r v j no_text bytes).0) broken r v b)

pub walks_after : (ms : Members Number) (before now after : Ids) (r : MarkedRole) (v : Json) (found : Option Found) → JudgesMarked ms before now r v None → IsNoText v
    → Walks ms now after r v found → Walks ms before after r v found
walks_after ms before now after r v found j no_text w =
    let same = same_ids ms before now r v j no_text in
    record {
      first = first_along _ _ (λ place broken. (broken_along ms _ _ (λ bytes. (same bytes).0) r v place broken, broken_along ms _ _ (λ bytes. (same bytes).1) r v place broken)) found w.first;
      ids = λ e bytes. (λ h. elim ((w.ids e bytes).0 h) [ inl a ↦ inl ((same bytes).0 a) | inr i ↦ inr i ], λ o. (w.ids e bytes).1 (elim o [ inl a ↦ inl ((same bytes).1 a) | inr i ↦ inr i ]));
    }
