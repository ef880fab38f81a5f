-- At the place of a breach stands a value.
use Rattle.std.proofs.Common.{◌≡◌, ℕ, List, [], ◌∷◌, refl, sym, subst}
use Rattle.json_tree.specs.Values.{Json, null, truth, number, text, array, object}
use Rattle.json_tree.specs.Places.{StandsAt}
use Rattle.local_rules.specs.Roles.{HasRole}
use Rattle.local_rules.specs.Breaches.{IsBreach}
use Rattle.local_rules.specs.declared.role.Role.{Role}
use Rattle.local_rules.specs.declared.role.Role.TheVariants as role
use Rattle.local_rules.specs.declared.rule.LocalRule.{LocalRule}

role_stands : (r : Role) (v : Json) (place : List ℕ) (q : Role) (w : Json) → HasRole r v place q w → StandsAt v place w
role_stands r v [] q w h = h.1
role_stands r v (i ∷ place) q w h = (h.1, h.2, role_stands h.0 h.1 place q w h.4)

leaf_stands : (v : Json) (place : List ℕ) → place ≡ [] → (part : Json) × StandsAt v place part
leaf_stands v place e =
    let root : StandsAt v [] v = refl in
    let P : List ℕ → Type 0 = λ p. StandsAt v p v in
    (v, subst P (sym e) root)

pub breach_stands : (v : Json) (place : List ℕ) (broken : LocalRule) → IsBreach v place broken → (part : Json) × StandsAt v place part
breach_stands null place broken h = leaf_stands null place h.0
breach_stands (truth b) place broken h = leaf_stands (truth b) place h.0
breach_stands (number n) place broken h = leaf_stands (number n) place h.0
breach_stands (text bytes) place broken h = leaf_stands (text bytes) place h.0
breach_stands (array vs) [] broken h = absurd h
breach_stands (array vs) (i ∷ place) broken h =
    (h.2.1, (h.0, h.1, role_stands role.Interface h.0 place h.2.0 h.2.1 h.2.2))
breach_stands (object ms) place broken h = (h.1, role_stands role.Interface (object ms) place h.0 h.1 h.2)
