-- Where no breach of a value comes first, there is none: what holds of places before is shown of the next, through the value.
use Rattle.std.proofs.Common.{◌≡◌, ℕ, zero, suc, ◌<◌, inl, inr, List, [], ◌∷◌, true, false, cond, bytes_eq, codes, decimal, Option, Some, None, refl, sym, ap, subst, arith}
use Rattle.std.specs.Option.{IsSomeAnd, option_and_then}
use Rattle.std.proofs.lemmas.Option.{same_Some, none-some}
use Rattle.json_decimal.specs.Number.{Number}
use Rattle.json_tree.specs.Values.{Json, null, truth, number, text, array, object, Elements, no_elements, element, Members, no_members, member}
use Rattle.json_tree.specs.Places.{element_at, member_at, IsPart}
use Rattle.json_tree.specs.Pointers.{HasToken, AreReferenceTokens, IsPointerOf, pointer_text}
use Rattle.json_tree.proofs.Parts.{one_part}
use Rattle.json_tree.specs.Members.{text_in, value_at, value_in, members_in}
use Rattle.dtdl_terms.specs.declared.resolved.Resolved.{Resolved}
use Rattle.twin_value.specs.Codes.{code_number}
use Rattle.twin_value.specs.Roles.{Role}
use Rattle.twin_value.specs.Breaches.{HasBodyPart, IsBodyBreach, IsFirstBodyBreach, BodyBreachComesBefore, HasNoBreach, IsLinkBreach, link_role_of, key_position}
use Rattle.twin_value.specs.declared.code.BodyCode.{BodyCode}

-- ---- places that are there
abbrev pub Stands : Json → List ℕ → Type 0
Stands v place = (tokens : List (List ℕ)) × AreReferenceTokens v place tokens

-- Breaches stand at places that are there, and no breach comes first.
abbrev AllStand : Json → (List ℕ → BodyCode → Type 0) → Type 0
AllStand v B = (place : List ℕ) (broken : BodyCode) → B place broken → Stands v place

abbrev NoneFirst : (List ℕ → BodyCode → Type 0) → Type 0
NoneFirst B = (place : List ℕ) (broken : BodyCode) → IsFirstBodyBreach B place broken → ⊥

abbrev Clears : Json → Type 1
Clears v = (B : List ℕ → BodyCode → Type 0) → AllStand v B → NoneFirst B → HasNoBreach B

token_part : (v : Json) (i : ℕ) (token : List ℕ) (part : Json) → HasToken v i token part → IsPart v i part
token_part null i token part h = absurd h
token_part (truth b) i token part h = absurd h
token_part (number n) i token part h = absurd h
token_part (text bytes) i token part h = absurd h
token_part (array vs) i token part h = h.0
token_part (object ms) i token part h = (token, h)

-- the least code at the value itself
module _ (B : List ℕ → BodyCode → Type 0) (none : NoneFirst B) where
  earlier_code : (n : ℕ) (broken : BodyCode) → code_number broken < suc n → ((another : BodyCode) → code_number another < n → B [] another → ⊥)
      → (other : List ℕ) (another : BodyCode) → BodyBreachComesBefore other another [] broken → B other another → ⊥
  earlier_code n broken low below other another (inl before) h = before
  earlier_code n broken low below other another (inr (same, less)) h = below another (omega (arith, low, less)) (subst (λ (o : List ℕ). B o another) same h)

  at_root_below : (n : ℕ) (broken : BodyCode) → code_number broken < n → B [] broken → ⊥
  at_root_below zero broken low b = omega (arith, low)
  at_root_below (suc n) broken low b = none [] broken (record { breach = b; least = earlier_code n broken low (λ another l h. at_root_below n another l h) })

  at_root : (broken : BodyCode) → B [] broken → ⊥
  at_root broken b = at_root_below (suc (code_number broken)) broken (omega arith) b

  -- the parts, one after another
  module _ (v : Json) (stands : AllStand v B) (parts : (i : ℕ) (w : Json) → IsPart v i w → Clears w) where
    inner : (i : ℕ) (part : Json) → IsPart v i part → AllStand part (λ (q : List ℕ) (c : BodyCode). B (i ∷ q) c)
    inner i part is q c h =
        let st = stands (i ∷ q) c h in
        let same : st.1.1 ≡ part = one_part v i st.1.1 part (token_part v i st.1.0 st.1.1 st.1.3) is in
        (st.1.2, subst (λ (w : Json). AreReferenceTokens w q st.1.2) same st.1.4)

    earlier : (i : ℕ) → ((j : ℕ) → j < i → (place : List ℕ) (broken : BodyCode) → B (j ∷ place) broken → ⊥) → (q : List ℕ) (c : BodyCode) → IsFirstBodyBreach (λ (p : List ℕ) (d : BodyCode). B (i ∷ p) d) q c
        → (other : List ℕ) (another : BodyCode) → BodyBreachComesBefore other another (i ∷ q) c → B other another → ⊥
    earlier i before_parts q c first [] another before h = at_root another h
    earlier i before_parts q c first (j ∷ other) another (inl (inl low)) h = before_parts j low other another h
    earlier i before_parts q c first (j ∷ other) another (inl (inr (same, before))) h = first.least other another (inl before) (subst (λ (k : ℕ). B (k ∷ other) another) same h)
    earlier i before_parts q c first (j ∷ other) another (inr (same, less)) h =
        let heads : j ≡ i = cc in
        let tails : other ≡ q = cc in
        first.least other another (inr (tails, less)) (subst (λ (k : ℕ). B (k ∷ other) another) heads h)

    in_part : (n i : ℕ) → i < n → (place : List ℕ) (broken : BodyCode) → B (i ∷ place) broken → ⊥
    in_part zero i low place broken b = omega (arith, low)
    in_part (suc n) i low place broken b =
        let st = stands (i ∷ place) broken b in
        let is : IsPart v i st.1.1 = token_part v i st.1.0 st.1.1 st.1.3 in
        parts i st.1.1 is (λ (q : List ℕ) (c : BodyCode). B (i ∷ q) c) (inner i st.1.1 is)
        (λ q c first. none (i ∷ q) c (record { breach = first.breach; least = earlier i (λ j l p d h. in_part n j (omega (arith, low, l)) p d h) q c first })) place broken b

from_parts : (v : Json) → ((i : ℕ) (w : Json) → IsPart v i w → Clears w) → Clears v
from_parts v parts B stands none [] broken b = at_root B none broken b
from_parts v parts B stands none (i ∷ place) broken b = in_part B none v stands parts (suc i) i (omega arith) place broken b

mutual
  clears : (v : Json) → Clears v
  clears null = from_parts null (λ i w is. absurd is)
  clears (truth b) = from_parts (truth b) (λ i w is. absurd is)
  clears (number n) = from_parts (number n) (λ i w is. absurd is)
  clears (text bytes) = from_parts (text bytes) (λ i w is. absurd is)
  clears (array vs) = from_parts (array vs) (elements_clear vs)
  clears (object ms) = from_parts (object ms) (λ i w is. members_clear ms i is.0 w is.1)

  elements_clear : (vs : Elements Number) (i : ℕ) (w : Json) → element_at vs i ≡ Some w → Clears w
  elements_clear no_elements i w e = absurd (none-some w e)
  elements_clear (element v vs) zero w e = subst Clears (same_Some v w e) (clears v)
  elements_clear (element v vs) (suc i) w e = elements_clear vs i w e

  members_clear : (ms : Members Number) (i : ℕ) (key : List ℕ) (w : Json) → member_at ms i ≡ Some (key, w) → Clears w
  members_clear no_members i key w e = absurd (none-some (key, w) e)
  members_clear (member k v ms) zero key w e = subst (λ (m : List ℕ × Json). Clears m.1) (same_Some (k, v) (key, w) e) (clears v)
  members_clear (member k v ms) (suc i) key w e = members_clear ms i key w e

-- ---- breaches stand at places
stands_part : (r : Role) (v : Json) (i : ℕ) (s : Role) (part : Json) → HasBodyPart r v i s part → (token : List ℕ) × HasToken v i token part
stands_part r null i s part h = absurd h
stands_part r (truth b) i s part h = absurd h
stands_part r (number n) i s part h = absurd h
stands_part r (text bytes) i s part h = absurd h
stands_part r (array vs) i s part h = (decimal i, (h.0, refl))
stands_part r (object ms) i s part h = (h.0, h.1)

breach_stands : (place : List ℕ) (r : Role) (v : Json) (broken : BodyCode) → IsBodyBreach r v place broken → Stands v place
breach_stands [] r v broken h = ([], refl)
breach_stands (i ∷ place) r v broken h =
    let token = stands_part r v i h.0 h.1 h.2 in
    let rest = breach_stands place h.0 h.1 broken h.3 in
    (token.0 ∷ rest.0, (token.0, h.1, rest.0, token.1, rest.1, refl))

position_there : (key : List ℕ) (ms : Members Number) (w : Json) → value_at key ms ≡ Some w → (k : List ℕ) × (member_at ms (key_position key ms) ≡ Some (k, w))
position_there key no_members w e = absurd (none-some w e)
position_there key (member k v ms) w e =
    elim (bytes_eq k key) as (λ b. cond b (Some v) (value_at key ms) ≡ Some w → (q : List ℕ) × (member_at (member k v ms) (cond b 0 (suc (key_position key ms))) ≡ Some (q, w))) [
      | true ↦ λ h. (k, ap (λ (x : Json). Some (k, x)) (same_Some v w h))
      | false ↦ λ h. position_there key ms w h
    ] e

position_stands : (v : Json) (key : List ℕ) (w : Json) → value_in key v ≡ Some w → Stands v (key_position key (members_in v) ∷ [])
position_stands null key w e = absurd (none-some w e)
position_stands (truth b) key w e = absurd (none-some w e)
position_stands (number n) key w e = absurd (none-some w e)
position_stands (text bytes) key w e = absurd (none-some w e)
position_stands (array vs) key w e = absurd (none-some w e)
position_stands (object ms) key w e = let at = position_there key ms w e in (at.0 ∷ [], (at.0, w, [], at.1, refl, refl))

some_under : (o : Option Json) (P : List ℕ → Type 0) → IsSomeAnd (option_and_then text_in o) P → (w : Json) × (o ≡ Some w)
some_under None P h = absurd h
some_under (Some w) P h = (w, refl)

link_stands : (r : Resolved) (v : Json) (place : List ℕ) (broken : BodyCode) → IsLinkBreach r v place broken → Stands v place
link_stands r v place broken (inl (named, at, is)) =
    let there = some_under (value_in (codes "$relationshipName") v) _ named in
    subst (λ (q : List ℕ). Stands v q) (sym at) (position_stands v (codes "$relationshipName") there.0 there.1)
link_stands r v place broken (inr (declared, b)) = breach_stands place (link_role_of r v) v broken b

-- ---- no first breach, none
pub no_breach : (r : Role) (v : Json) → ((place : List ℕ) (broken : BodyCode) → IsFirstBodyBreach (IsBodyBreach r v) place broken → (pointer : List ℕ) → IsPointerOf v place pointer → ⊥) → HasNoBreach (IsBodyBreach r v)
no_breach r v none =
    clears v (IsBodyBreach r v) (λ place broken b. breach_stands place r v broken b)
    (λ place broken first. let st = breach_stands place r v broken first.breach in none place broken first (pointer_text st.0) (st.0, st.1, refl))

pub no_link_breach : (r : Resolved) (v : Json) → ((place : List ℕ) (broken : BodyCode) → IsFirstBodyBreach (IsLinkBreach r v) place broken → (pointer : List ℕ) → IsPointerOf v place pointer → ⊥) → HasNoBreach (IsLinkBreach r v)
no_link_breach r v none =
    clears v (IsLinkBreach r v) (link_stands r v)
    (λ place broken first. let st = link_stands r v place broken first.breach in none place broken first (pointer_text st.0) (st.0, st.1, refl))
