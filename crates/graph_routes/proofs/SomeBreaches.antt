-- Of breaches that stand at places of a value one is the first, or there is none; each place has a pointer.
use Rattle.std.proofs.Common.{◌≡◌, ℕ, ◌<◌, ◌⊎◌, inl, inr, List, [], ◌∷◌, decimal, refl, subst, arith}
use Rattle.dt_base.specs.Existence.{IsThere}
use Rattle.dt_base.proofs.Existence.{is_there, from_there, map_there, least_there}
use Rattle.json_tree.specs.Values.{Value, Json, null, truth, number, text, array, object}
use Rattle.json_tree.specs.Places.{IsPart, IsSomewhere}
use Rattle.json_tree.specs.Pointers.{HasToken, IsPointerOf, pointer_text}
use Rattle.json_tree.proofs.FirstPlaces.{FirstOrNone, IsFirstPlace, first_place}
use Rattle.twin_value.specs.Codes.{code_name, code_number}
use Rattle.twin_value.specs.Breaches.{BodyBreachComesBefore, HasNoBreach, IsFirstBodyBreach}
use Rattle.twin_value.specs.declared.code.BodyCode.{BodyCode}
use Rattle.graph_asks.specs.declared.refusal.At.TheVariants as at
use Rattle.graph_asks.specs.declared.refusal.Refusal.{Refusal}
use Rattle.graph_asks.specs.declared.refusal.Refusal.TheVariants as refusals
use Rattle.graph_steps.specs.TwinAsks.{BodyFault}

-- ---- pointers
part_token : {N : Type 0} (v : Value N) (i : ℕ) (part : Value N) → IsPart v i part → (token : List ℕ) × HasToken v i token part
part_token null i part h = absurd h
part_token (truth b) i part h = absurd h
part_token (number n) i part h = absurd h
part_token (text t) i part h = absurd h
part_token (array vs) i part h = (decimal i, (h, refl))
part_token (object ms) i part h = (h.0, h.1)

pub pointed : {N : Type 0} (v : Value N) (place : List ℕ) → IsSomewhere v place → (pointer : List ℕ) × IsPointerOf v place pointer
pointed v [] s = (pointer_text [], ([], refl, refl))
pointed v (i ∷ place) (w, (part, is, stands)) =
    let t = part_token v i part is in
    let rest = pointed part place (w, stands) in
    (pointer_text (t.0 ∷ rest.1.0), (t.0 ∷ rest.1.0, (t.0, part, rest.1.0, t.1, rest.1.1, refl), refl))

-- ---- the first breach
abbrev First : (List ℕ → BodyCode → Type 0) → Type 0
First Broken = (place : List ℕ) × (broken : BodyCode) × IsFirstBodyBreach Broken place broken

module _ (Broken : List ℕ → BodyCode → Type 0) where
  abbrev IsBrokenAt : List ℕ → Type 0
  IsBrokenAt place = (broken : BodyCode) × Broken place broken

  abbrev IsBrokenBy : List ℕ → ℕ → Type 0
  IsBrokenBy place n = (broken : BodyCode) × Broken place broken × (code_number broken ≡ n)

  not_before : (place : List ℕ) (n : ℕ) → IsFirstPlace IsBrokenAt place → ((k : ℕ) → k < n → IsBrokenBy place k → ⊥)
      → (broken : BodyCode) → code_number broken ≡ n
      → (other : List ℕ) (another : BodyCode) → BodyBreachComesBefore other another place broken → Broken other another → ⊥
  not_before place n first codes broken by other another (inl before) b = first.1 other before (another, b)
  not_before place n first codes broken by other another (inr (same, less)) b =
      codes (code_number another) (omega (arith, less, by)) (another, subst (λ (p : List ℕ). Broken p another) same b, refl)

  first_code : (place : List ℕ) → IsFirstPlace IsBrokenAt place → IsThere ((broken : BodyCode) × IsFirstBodyBreach Broken place broken)
  first_code place first =
      map_there (λ (n : (n : ℕ) × IsBrokenBy place n × ((k : ℕ) → k < n → IsBrokenBy place k → ⊥)).
      (n.1.0, record { breach = n.1.1; least = not_before place n.0 first n.2 n.1.0 n.1.2 }))
      (least_there (IsBrokenBy place) (code_number first.0.0) (first.0.0, first.0.1, refl))

  first_or_none : (v : Json) → ((place : List ℕ) (broken : BodyCode) → Broken place broken → IsSomewhere v place) → IsThere (HasNoBreach Broken ⊎ First Broken)
  first_or_none v within =
      from_there (first_place v IsBrokenAt (λ place b. within place b.0 b.1)) (λ (found : FirstOrNone IsBrokenAt). elim found [
        | inl there ↦ map_there (λ (b : (broken : BodyCode) × IsFirstBodyBreach Broken there.0 broken). inr (there.0, b.0, b.1)) (first_code there.0 there.1)
        | inr none ↦ is_there (inl (λ place broken b. none place (broken, b)))
      ])

  told : (v : Json) → ((place : List ℕ) (broken : BodyCode) → Broken place broken → IsSomewhere v place) → First Broken → (refusal : Refusal) × BodyFault Broken v refusal
  told v within (place, broken, first) =
      let p = pointed v place (within place broken first.breach) in
      (refusals.BodyFault (at.Pointer p.0) (code_name broken), (place, p.0, broken, first, p.1, refl))

  pub fault_or_none : (v : Json) → ((place : List ℕ) (broken : BodyCode) → Broken place broken → IsSomewhere v place)
      → IsThere (HasNoBreach Broken ⊎ ((refusal : Refusal) × BodyFault Broken v refusal))
  fault_or_none v within = map_there (λ (found : HasNoBreach Broken ⊎ First Broken). elim found [
    | inl none ↦ inl none
    | inr first ↦ inr (told v within first)
  ]) (first_or_none v within)
