-- A document breaks no local rule, or has a first breach.
use Rattle.std.proofs.Common.{◌≡◌, ℕ, ◌<◌, ◌⊎◌, inl, inr, List, [], ◌∷◌, refl, sym, subst, arith}
use Rattle.dt_base.specs.Existence.{IsThere}
use Rattle.dt_base.proofs.Existence.{is_there, from_there, map_there, least_there}
use Rattle.json_tree.specs.Values.{Json, null, truth, number, text, array, object}
use Rattle.json_tree.specs.Places.{IsSomewhere}
use Rattle.json_tree.proofs.FirstPlaces.{FirstOrNone, IsFirstPlace, first_place}
use Rattle.local_rules.specs.Codes.{rule_number}
use Rattle.local_rules.specs.Roles.{HasRole}
use Rattle.local_rules.specs.Breaches.{IsBreach, BreaksNoLocalRule, ComesBefore, IsFirstBreach}
use Rattle.local_rules.specs.declared.rule.LocalRule.{LocalRule}
use Rattle.local_rules.specs.declared.role.Role.{Role}
use Rattle.local_rules.specs.declared.role.Role.TheVariants as role

-- ---- where a rule is broken, something stands
role_stands : (r : Role) (v : Json) (place : List ℕ) (q : Role) (w : Json) → HasRole r v place q w → IsSomewhere v place
role_stands r v [] q w h = (v, refl)
role_stands r v (i ∷ place) q w (s, part, is, own, h) = let rest = role_stands s part place q w h in (rest.0, (part, is, rest.1))

whole_stands : (v : Json) (place : List ℕ) → place ≡ [] → IsSomewhere v place
whole_stands v place e = subst (λ (p : List ℕ). IsSomewhere v p) (sym e) (v, refl)

pub breach_stands : (v : Json) (place : List ℕ) (broken : LocalRule) → IsBreach v place broken → IsSomewhere v place
breach_stands null place broken h = whole_stands null place h.0
breach_stands (truth b) place broken h = whole_stands (truth b) place h.0
breach_stands (number n) place broken h = whole_stands (number n) place h.0
breach_stands (text bytes) place broken h = whole_stands (text bytes) place h.0
breach_stands (array vs) [] broken h = absurd h
breach_stands (array vs) (i ∷ place) broken (interface, at, (r, w, has, breaks)) =
    let s = role_stands role.Interface interface place r w has in (s.0, (interface, at, s.1))
breach_stands (object ms) place broken (r, w, has, breaks) = role_stands role.Interface (object ms) place r w has

-- ---- the first place where one is broken, and the first rule there
abbrev IsBrokenAt : Json → List ℕ → Type 0
IsBrokenAt v place = (broken : LocalRule) × IsBreach v place broken

abbrev IsBrokenBy : Json → List ℕ → ℕ → Type 0
IsBrokenBy v place n = (broken : LocalRule) × IsBreach v place broken × (rule_number broken ≡ n)

not_before : (v : Json) (place : List ℕ) (n : ℕ) → IsFirstPlace (IsBrokenAt v) place → ((k : ℕ) → k < n → IsBrokenBy v place k → ⊥)
    → (broken : LocalRule) → rule_number broken ≡ n
    → (other : List ℕ) (another : LocalRule) → ComesBefore other another place broken → IsBreach v other another → ⊥
not_before v place n first rules broken by other another (inl before) b = first.1 other before (another, b)
not_before v place n first rules broken by other another (inr (same, less)) b =
    rules (rule_number another) (omega (arith, less, by)) (another, subst (λ (p : List ℕ). IsBreach v p another) same b, refl)

first_rule : (v : Json) (place : List ℕ) → IsFirstPlace (IsBrokenAt v) place → IsThere ((broken : LocalRule) × IsFirstBreach v place broken)
first_rule v place first =
    map_there (λ (n : (n : ℕ) × IsBrokenBy v place n × ((k : ℕ) → k < n → IsBrokenBy v place k → ⊥)).
    (n.1.0, record { breach = n.1.1; least = not_before v place n.0 first n.2 n.1.0 n.1.2 }))
    (least_there (IsBrokenBy v place) (rule_number first.0.0) (first.0.0, first.0.1, refl))

pub breach_or_none : (v : Json) → IsThere (BreaksNoLocalRule v ⊎ ((place : List ℕ) × (broken : LocalRule) × IsFirstBreach v place broken))
breach_or_none v =
    from_there (first_place v (IsBrokenAt v) (λ place b. breach_stands v place b.0 b.1)) (λ (found : FirstOrNone (IsBrokenAt v)). elim found [
      | inl at ↦ map_there (λ (b : (broken : LocalRule) × IsFirstBreach v at.0 broken). inr (at.0, b.0, b.1)) (first_rule v at.0 at.1)
      | inr none ↦ is_there (inl (λ place broken b. none place (broken, b)))
    ])
