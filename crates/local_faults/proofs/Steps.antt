-- What is broken in a value, from what is broken in its parts.
use Rattle.std.proofs.Common.{◌≡◌, ℕ, ◌⊎◌, inl, inr, List, [], ◌∷◌, Some, refl, sym, ap, subst, ◌∙◌}
use Rattle.json_decimal.specs.Number.{Number}
use Rattle.json_tree.specs.Values.{Json, null, truth, number, text, array, object, Members}
use Rattle.json_tree.specs.Places.{IsPart, IsBefore}
use Rattle.local_rules.specs.Machinery.Marks.{HasMarkedRole, part_marked}
use Rattle.local_rules.specs.Identifiers.{IsIdRole}
use Rattle.local_rules.specs.declared.rule.LocalRule.{LocalRule}
use Rattle.local_rules.specs.declared.marks.MarkedRole.{MarkedRole}
use Rattle.local_faults.specs.Machinery.Walks.{BreaksMarked, HasIdBefore, HasIdInPartBefore, IsBrokenFrom}
use Rattle.local_faults.proofs.Rules.{breaks_along}

-- there is one part at a position
pub one_part : (v : Json) (i : ℕ) (a b : Json) → IsPart v i a → IsPart v i b → a ≡ b
one_part null i a b p q = absurd p
one_part (truth t) i a b p q = absurd p
one_part (number n) i a b p q = absurd p
one_part (text t) i a b p q = absurd p
one_part (array vs) i a b p q = let e : Some a ≡ Some b = sym p ∙ q in cc
one_part (object ms) i a b p q = let e : Some (p.0, a) ≡ Some (q.0, b) = sym p.1 ∙ q.1 in let f : (p.0, a) ≡ (q.0, b) = cc in ap (λ (m : List ℕ × Json). m.1) f

pub one_role : (r : MarkedRole) (v : Json) (i : ℕ) (s t : MarkedRole) → part_marked r v i ≡ Some s → part_marked r v i ≡ Some t → s ≡ t
one_role r v i s t p q = let e : Some s ≡ Some t = sym p ∙ q in cc

-- a text has no parts
no_part_of_text : (v : Json) (i : ℕ) (part : Json) (bytes : List ℕ) → v ≡ text bytes → IsPart v i part → ⊥
no_part_of_text v i part bytes e p = let Q : Json → Type 0 = λ w. IsPart w i part in subst Q e p

-- ---- one step down
id_step : (r : MarkedRole) (v : Json) (i : ℕ) (place : List ℕ) (s : MarkedRole) (part : Json) (bytes : List ℕ) → IsPart v i part → part_marked r v i ≡ Some s
    → (earlier : List ℕ) (q : MarkedRole) → IsBefore earlier (i ∷ place) → HasMarkedRole r v earlier q (text bytes) → IsIdRole q.role
    → HasIdInPartBefore r v i bytes ⊎ HasIdBefore s part place bytes
id_step r v i place s part bytes p pr [] q before h id = absurd (no_part_of_text v i part bytes h.1 p)
id_step r v i place s part bytes p pr (j ∷ earlier) q (inl less) h id =
    inl (record { position = j; less = less; within = h.0; part = h.1; is_part = h.2; has_role = h.3; id = record { place = earlier; within = q; stands = h.4; is_id = id } })
id_step r v i place s part bytes p pr (j ∷ earlier) q (inr same) h id =
    let e : j ≡ i = same.0 in
    let other : IsPart v i h.1 = subst (λ (n : ℕ). IsPart v n h.1) e h.2 in
    let role : part_marked r v i ≡ Some h.0 = subst (λ (n : ℕ). part_marked r v n ≡ Some h.0) e h.3 in
    let one = one_part v i h.1 part other p in
    let two = one_role r v i h.0 s role pr in
    let there : HasMarkedRole s part earlier q (text bytes) =
    subst (λ (t : MarkedRole). HasMarkedRole t part earlier q (text bytes)) two (subst (λ (w : Json). HasMarkedRole h.0 w earlier q (text bytes)) one h.4) in
    inr (record { earlier = earlier; within = q; before = same.1; stands = there; is_id = id })

pub id_down : (r : MarkedRole) (v : Json) (i : ℕ) (place : List ℕ) (s : MarkedRole) (part : Json) (bytes : List ℕ) → IsPart v i part → part_marked r v i ≡ Some s
    → HasIdBefore r v (i ∷ place) bytes → HasIdInPartBefore r v i bytes ⊎ HasIdBefore s part place bytes
id_down r v i place s part bytes p pr h = id_step r v i place s part bytes p pr h.earlier h.within h.before h.stands h.is_id

pub id_up : (r : MarkedRole) (v : Json) (i : ℕ) (place : List ℕ) (s : MarkedRole) (part : Json) (bytes : List ℕ) → IsPart v i part → part_marked r v i ≡ Some s
    → HasIdInPartBefore r v i bytes ⊎ HasIdBefore s part place bytes → HasIdBefore r v (i ∷ place) bytes
id_up r v i place s part bytes p pr (inl h) = record {
  earlier = h.position ∷ h.id.place;
  within = h.id.within;
  before = inl h.less;
  stands = (h.within, h.part, h.is_part, h.has_role, h.id.stands);
  is_id = h.id.is_id;
}
id_up r v i place s part bytes p pr (inr h) = record {
  earlier = i ∷ h.earlier;
  within = h.within;
  before = inr (refl, h.before);
  stands = (s, part, p, pr, h.stands);
  is_id = h.is_id;
}

-- the `@id`s before a part are those before the value and those in the parts before it
abbrev pub Before : (List ℕ → Type 0) → MarkedRole → Json → ℕ → List ℕ → Type 0
Before IsEarlier r v i bytes = IsEarlier bytes ⊎ HasIdInPartBefore r v i bytes

deeper : (IsEarlier : List ℕ → Type 0) (r : MarkedRole) (v : Json) (i : ℕ) (place : List ℕ) (s : MarkedRole) (part : Json) → IsPart v i part → part_marked r v i ≡ Some s
    → (bytes : List ℕ) → IsEarlier bytes ⊎ HasIdBefore r v (i ∷ place) bytes → Before IsEarlier r v i bytes ⊎ HasIdBefore s part place bytes
deeper IsEarlier r v i place s part p pr bytes (inl e) = inl (inl e)
deeper IsEarlier r v i place s part p pr bytes (inr h) = elim (id_down r v i place s part bytes p pr h) [ inl a ↦ inl (inr a) | inr b ↦ inr b ]

higher : (IsEarlier : List ℕ → Type 0) (r : MarkedRole) (v : Json) (i : ℕ) (place : List ℕ) (s : MarkedRole) (part : Json) → IsPart v i part → part_marked r v i ≡ Some s
    → (bytes : List ℕ) → Before IsEarlier r v i bytes ⊎ HasIdBefore s part place bytes → IsEarlier bytes ⊎ HasIdBefore r v (i ∷ place) bytes
higher IsEarlier r v i place s part p pr bytes (inl (inl e)) = inl e
higher IsEarlier r v i place s part p pr bytes (inl (inr a)) = inr (id_up r v i place s part bytes p pr (inl a))
higher IsEarlier r v i place s part p pr bytes (inr b) = inr (id_up r v i place s part bytes p pr (inr b))

-- what is broken below a part is broken in it
pub broken_down : (ms : Members Number) (IsEarlier : List ℕ → Type 0) (r : MarkedRole) (v : Json) (i : ℕ) (place : List ℕ) (broken : LocalRule)
    → IsBrokenFrom ms IsEarlier r v (i ∷ place) broken
    → (s : MarkedRole) × (part : Json) × IsPart v i part × (part_marked r v i ≡ Some s) × IsBrokenFrom ms (Before IsEarlier r v i) s part place broken
broken_down ms IsEarlier r v i place broken b =
    let h = b.stands in (
      h.0,
      h.1,
      h.2,
      h.3,
      record {
        within = b.within;
        part = b.part;
        stands = h.4;
        breaks = breaks_along ms _ _ (deeper IsEarlier r v i place h.0 h.1 h.2 h.3) broken b.within b.part b.breaks;
      },
    )

pub broken_up : (ms : Members Number) (IsEarlier : List ℕ → Type 0) (r : MarkedRole) (v : Json) (i : ℕ) (place : List ℕ) (broken : LocalRule)
    → (s : MarkedRole) (part : Json) → IsPart v i part → part_marked r v i ≡ Some s → IsBrokenFrom ms (Before IsEarlier r v i) s part place broken
    → IsBrokenFrom ms IsEarlier r v (i ∷ place) broken
broken_up ms IsEarlier r v i place broken s part p pr b = record {
  within = b.within;
  part = b.part;
  stands = (s, part, p, pr, b.stands);
  breaks = breaks_along ms _ _ (higher IsEarlier r v i place s part p pr) broken b.within b.part b.breaks;
}

either_along : (P Q : List ℕ → Type 0) (r : MarkedRole) (v : Json) (place : List ℕ) → ((bytes : List ℕ) → P bytes → Q bytes)
    → (bytes : List ℕ) → P bytes ⊎ HasIdBefore r v place bytes → Q bytes ⊎ HasIdBefore r v place bytes
either_along P Q r v place f bytes (inl e) = inl (f bytes e)
either_along P Q r v place f bytes (inr h) = inr h

pub broken_along : (ms : Members Number) (P Q : List ℕ → Type 0) → ((bytes : List ℕ) → P bytes → Q bytes)
    → (r : MarkedRole) (v : Json) (place : List ℕ) (broken : LocalRule) → IsBrokenFrom ms P r v place broken → IsBrokenFrom ms Q r v place broken
broken_along ms P Q f r v place broken b = record {
  within = b.within;
  part = b.part;
  stands = b.stands;
  breaks = breaks_along ms _ _ (either_along P Q r v place f) broken b.within b.part b.breaks;
}

-- at the value itself
pub broken_here : (ms : Members Number) (P : List ℕ → Type 0) (r : MarkedRole) (v : Json) (broken : LocalRule) → BreaksMarked ms P broken r v → IsBrokenFrom ms P r v [] broken
broken_here ms P r v broken b = record { within = r; part = v; stands = (refl, refl); breaks = breaks_along ms _ _ (λ bytes e. inl e) broken r v b }

nothing_before : (P : List ℕ → Type 0) (r : MarkedRole) (v : Json) (bytes : List ℕ) → P bytes ⊎ HasIdBefore r v [] bytes → P bytes
nothing_before P r v bytes (inl e) = e
nothing_before P r v bytes (inr h) = absurd h.before

pub is_broken_here : (ms : Members Number) (P : List ℕ → Type 0) (r : MarkedRole) (v : Json) (broken : LocalRule) → IsBrokenFrom ms P r v [] broken → BreaksMarked ms P broken r v
is_broken_here ms P r v broken b =
    let one : b.within ≡ r = sym b.stands.0 in
    let two : b.part ≡ v = sym b.stands.1 in
    let here = breaks_along ms _ _ (nothing_before P r v) broken b.within b.part b.breaks in
    subst (λ (w : Json). BreaksMarked ms P broken r w) two (subst (λ (q : MarkedRole). BreaksMarked ms P broken q b.part) one here)
