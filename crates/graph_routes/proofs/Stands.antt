-- At the place of a breach stands a value.
use Rattle.std.proofs.Common.{◌≡◌, ℕ, List, [], ◌∷◌, refl, sym, subst}
use Rattle.json_tree.specs.Values.{Json, null, truth, number, text, array, object}
use Rattle.json_tree.specs.Places.{StandsAt}
use Rattle.local_rules.specs.Roles.{HasRole}
use Rattle.local_rules.specs.Breaches.{IsBreach}
use Rattle.local_rules.specs.declared.role.Role.{Role}
use Rattle.local_rules.specs.declared.role.Role.TheVariants as role
use Rattle.local_rules.specs.declared.rule.LocalRule.{LocalRule}

stands_in_role : (r : Role) (v : Json) (place : List ℕ) (q : Role) (w : Json) → HasRole r v place q w → StandsAt v place w
stands_in_role r v [] q w h = h.1
stands_in_role r v (i ∷ place) q w h = (h.1, h.2, stands_in_role h.0 h.1 place q w h.4)

stands_whole : (v : Json) (place : List ℕ) → place ≡ [] → (part : Json) × StandsAt v place part
stands_whole v place e =
    let root : StandsAt v [] v = refl in
    (v, subst (λ (p : List ℕ). StandsAt v p v) (sym e) root)

pub breach_stands : (v : Json) (place : List ℕ) (broken : LocalRule) → IsBreach v place broken → (part : Json) × StandsAt v place part
breach_stands null place broken h = stands_whole null place h.0
breach_stands (truth b) place broken h = stands_whole (truth b) place h.0
breach_stands (number n) place broken h = stands_whole (number n) place h.0
breach_stands (text bytes) place broken h = stands_whole (text bytes) place h.0
breach_stands (array vs) [] broken h = absurd h
breach_stands (array vs) (i ∷ place) broken h = (h.2.1, (h.0, h.1, stands_in_role role.Interface h.0 place h.2.0 h.2.1 h.2.2))
breach_stands (object ms) place broken h = (h.1, stands_in_role role.Interface (object ms) place h.0 h.1 h.2)
