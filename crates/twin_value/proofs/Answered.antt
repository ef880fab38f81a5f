-- What the walk answers, told of a value and its schema.
use Rattle.std.proofs.Common.{◌≡◌, ℕ, List, map, reverse, Option, Some, sym, ap, subst, ◌∙◌}
use Rattle.json_tree.specs.Values.{Json}
use Rattle.dtdl_terms.specs.TermViews.{schema_term}
use Rattle.dtdl_terms.specs.declared.schema.Schema.{Schema}
use Rattle.twin_value.specs.Fits.{Fits}
use Rattle.twin_value.specs.Roles.{Role, value_of}
use Rattle.twin_value.specs.Breaches.{IsBodyBreach, IsFirstBodyBreach, IsValueBreach}
use Rattle.twin_value.specs.Machinery.Sound.{Sound}
use Rattle.twin_value.specs.Machinery.Walks.{FindsFirstBodyBreach}
use Rattle.twin_value.specs.declared.code.BodyCode.{BodyCode}
use Rattle.twin_value.specs.declared.walk.Found.{Found}
use Rattle.twin_value.proofs.Fitting.{any_fits, fits_clear}

module _ (named index : List Schema) (schema : Schema) (v : Json) (r : Role) (same : index ≡ named) (is : r ≡ value_of (map schema_term index) (schema_term schema)) where
  role_is : r ≡ value_of (map schema_term named) (schema_term schema)
  role_is = is ∙ ap (λ (ss : List Schema). value_of (map schema_term ss) (schema_term schema)) same

  pub walked : (found : Option Found) → FindsFirstBodyBreach (IsBodyBreach r v) found → FindsFirstBodyBreach (IsValueBreach named schema v) found
  walked found h = subst (λ (q : Role). FindsFirstBodyBreach (IsBodyBreach q v) found) role_is h

  pub sound_fits : Sound r v → Fits v (schema_term schema) (map schema_term named)
  sound_fits h = any_fits (map schema_term named) (schema_term schema) v (subst (λ (q : Role). Sound q v) role_is h)

pub breach_not : (named : List Schema) (schema : Schema) (v : Json) (place : List ℕ) (broken : BodyCode) → IsFirstBodyBreach (IsValueBreach named schema v) place broken
    → Fits v (schema_term schema) (map schema_term named) → ⊥
breach_not named schema v place broken first h = fits_clear place broken (map schema_term named) (schema_term schema) v h first.breach

-- the same breach, told by a place
pub placed : (named : List Schema) (schema : Schema) (v : Json) (found : Found) (place : List ℕ) (broken : BodyCode) → place ≡ reverse found.steps.items → broken ≡ found.code
    → FindsFirstBodyBreach (IsValueBreach named schema v) (Some found) → IsFirstBodyBreach (IsValueBreach named schema v) place broken
placed named schema v found place broken e f h =
    subst (λ (p : List ℕ). IsFirstBodyBreach (IsValueBreach named schema v) p broken) (sym e)
    (subst (λ (c : BodyCode). IsFirstBodyBreach (IsValueBreach named schema v) (reverse found.steps.items) c) (sym f) h)
