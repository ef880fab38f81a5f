-- The first of the rules on named schemas that is broken.
use Rattle.std.proofs.Common.{◌≡◌, ℕ, ◌<◌, ◌≤◌, inl, inr, List, Some, None, Bool, true, false, refl, sym, ◌∙◌, subst, arith, ⊎_elim}
use Rattle.std.specs.Prelude.{not}
use Rattle.std.proofs.lemmas.Bool.{cases_lt}
use Rattle.json_decimal.specs.Number.{Number}
use Rattle.json_tree.specs.Values.{Json, null, truth, number, text, array, object, Members}
use Rattle.json_tree.specs.Members.{text_in}
use Rattle.local_rules.specs.Identifiers.{OfText}
use Rattle.local_rules.specs.Codes.{rule_number}
use Rattle.local_rules.specs.Breaches.{BreaksBySchemas, IsFirstOf}
use Rattle.local_rules.specs.Levels.{IsOuter, UnknownSchema, TooDeep, ArrayInProperty}
use Rattle.local_rules.specs.declared.rule.LocalRule.{LocalRule}
use Rattle.local_rules.specs.declared.rule.LocalRule.TheVariants as rule
use Rattle.local_rules.specs.declared.role.Role.{Role}
use Rattle.local_rules.specs.declared.role.Role.TheVariants as role
use Rattle.local_rules.specs.declared.role.SchemaUse.TheVariants as schema_use
use Rattle.local_faults.specs.Machinery.Measured.{IsMeasure}
use Rattle.local_faults.specs.declared.measures.Measure.{Measure}
use Rattle.local_faults.proofs.Climbs.{level_down, short_way}

-- of what a value is as a text
pub of_text : (P : List ℕ → Type 0) (v : Json) (bytes : List ℕ) → Some bytes ≡ text_in v → P bytes → OfText P v
of_text P null bytes e h = cc
of_text P (truth b) bytes e h = cc
of_text P (number n) bytes e h = cc
of_text P (text other) bytes e h = let same : bytes ≡ other = cc in subst P same h
of_text P (array vs) bytes e h = cc
of_text P (object ms) bytes e h = cc

pub by_text : (P : List ℕ → Type 0) (v : Json) (bytes : List ℕ) → Some bytes ≡ text_in v → OfText P v → P bytes
by_text P null bytes e h = absurd h
by_text P (truth b) bytes e h = absurd h
by_text P (number n) bytes e h = absurd h
by_text P (text other) bytes e h = let same : other ≡ bytes = cc in subst P same h
by_text P (array vs) bytes e h = absurd h
by_text P (object ms) bytes e h = absurd h

pub no_text : (P : List ℕ → Type 0) (v : Json) → None ≡ text_in v → OfText P v → ⊥
no_text P null e h = h
no_text P (truth b) e h = h
no_text P (number n) e h = h
no_text P (text other) e h = cc
no_text P (array vs) e h = h
no_text P (object ms) e h = h

-- what a test of the opposite says
pub off_by : (b : Bool) → not b ≡ true → b ≡ false
off_by true h = cc
off_by false h = refl

pub on_by : (b : Bool) → not b ≡ false → b ≡ true
on_by true h = refl
on_by false h = cc

module _ (ms : Members Number) (r : Role) (v : Json) where
  before_unknown : (other : LocalRule) → rule_number other < 31 → BreaksBySchemas ms other r v → ⊥
  before_unknown rule.UnknownSchema less broken = omega (arith, less)
  before_unknown rule.TooDeep less broken = omega (arith, less)
  before_unknown rule.ArrayInProperty less broken = omega (arith, less)
  before_unknown other less broken = broken

  before_deep : (UnknownSchema ms r v → ⊥) → (other : LocalRule) → rule_number other < 33 → BreaksBySchemas ms other r v → ⊥
  before_deep known rule.UnknownSchema less broken = known broken
  before_deep known rule.TooDeep less broken = omega (arith, less)
  before_deep known rule.ArrayInProperty less broken = omega (arith, less)
  before_deep known other less broken = broken

  before_array : (UnknownSchema ms r v → ⊥) → (TooDeep ms r v → ⊥) → (other : LocalRule) → rule_number other < 34 → BreaksBySchemas ms other r v → ⊥
  before_array known flat rule.UnknownSchema less broken = known broken
  before_array known flat rule.TooDeep less broken = flat broken
  before_array known flat rule.ArrayInProperty less broken = omega (arith, less)
  before_array known flat other less broken = broken

  none_broken : (UnknownSchema ms r v → ⊥) → (TooDeep ms r v → ⊥) → (ArrayInProperty ms r v → ⊥) → (other : LocalRule) → BreaksBySchemas ms other r v → ⊥
  none_broken known flat free rule.UnknownSchema broken = known broken
  none_broken known flat free rule.TooDeep broken = flat broken
  none_broken known flat free rule.ArrayInProperty broken = free broken
  none_broken known flat free other broken = broken

  pub first_unknown : UnknownSchema ms r v → IsFirstOf (λ broken. BreaksBySchemas ms broken r v) (Some rule.UnknownSchema)
  first_unknown broken = (broken, before_unknown)

  pub first_deep : (UnknownSchema ms r v → ⊥) → TooDeep ms r v → IsFirstOf (λ broken. BreaksBySchemas ms broken r v) (Some rule.TooDeep)
  first_deep known broken = (broken, before_deep known)

  pub first_array : (UnknownSchema ms r v → ⊥) → (TooDeep ms r v → ⊥) → ArrayInProperty ms r v → IsFirstOf (λ broken. BreaksBySchemas ms broken r v) (Some rule.ArrayInProperty)
  first_array known flat broken = (broken, before_array known flat)

  pub first_none : (UnknownSchema ms r v → ⊥) → (TooDeep ms r v → ⊥) → (ArrayInProperty ms r v → ⊥) → IsFirstOf (λ broken. BreaksBySchemas ms broken r v) None
  first_none known flat free = none_broken known flat free

  -- a role in another schema breaks neither of the two others
  pub inner_flat : (IsOuter r → ⊥) → TooDeep ms r v → ⊥
  inner_flat inner deep = inner deep.0

  pub inner_free : (IsOuter r → ⊥) → ArrayInProperty ms r v → ⊥
  inner_free inner reach = inner (inr (inl reach.0))

  -- what a measure says
  pub flat_by : (m : Measure) → IsMeasure ms 6 v m → m.level < 6 → TooDeep ms r v → ⊥
  flat_by m h less deep = let most = h.levels 6 (omega arith) (omega arith) deep.1 in omega (arith, most, less)

  pub deep_by : (m : Measure) → IsMeasure ms 6 v m → IsOuter r → 6 ≤ m.level → TooDeep ms r v
  deep_by m h outer most = (outer, level_down ms 6 m.level v most h.deep)

  pub array_by : (m : Measure) → IsMeasure ms 6 v m → r ≡ role.Schema schema_use.Property → m.reaches ≡ true → ArrayInProperty ms r v
  array_by m h is on = (is, h.array on)

  pub free_by : (m : Measure) → IsMeasure ms 6 v m → m.level < 6 → m.reaches ≡ false → ArrayInProperty ms r v → ⊥
  free_by m h less off broken =
      let short = short_way ms broken.1.0 v broken.1.1 in
      ⊎_elim
      (λ over.
      let most = h.levels 6 (omega arith) (omega arith) (level_down ms 6 short.steps v (omega (arith, over)) short.level) in
      omega (arith, most, less))
      (λ within.
      let on = h.arrays short.steps within short.reach in
      let e : false ≡ true = sym off ∙ on in cc)
      (cases_lt 6 short.steps)
