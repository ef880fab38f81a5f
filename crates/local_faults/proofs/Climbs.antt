-- Levels and reach, one step down.
use Rattle.std.proofs.Common.{◌≡◌, ℕ, suc, zero, ◌≤◌, inl, inr, List, Some, None, refl, ap, sym, ◌∙◌, subst, arith}
use Rattle.json_decimal.specs.Number.{Number}
use Rattle.json_tree.specs.Values.{Json, text, object, Members}
use Rattle.local_rules.specs.Levels.{IsComplex, IsPrimitiveName, HasLevel, ReachesWithin, schema_named, schema_type, schema_parts}
use Rattle.local_rules.specs.declared.role.Element.{Element}

-- a level is at least each number below it
pub level_down : (ms : Members Number) (j k : ℕ) (v : Json) → j ≤ k → HasLevel ms k v → HasLevel ms j v
level_down ms zero k v le h = tt
level_down ms (suc j) zero v le h = absurd (omega (arith, le))
level_down ms (suc zero) (suc k) v le (type, parts, complex, rest) = (type, parts, complex, inl refl)
level_down ms (suc (suc j)) (suc k) v le (type, parts, complex, inl none) = absurd (omega (arith, le, none))
level_down ms (suc (suc j)) (suc k) v le (type, parts, complex, inr (part, among, deep)) =
    (type, parts, complex, inr (part, among, level_down ms (suc j) k part (omega (arith, le)) deep))

-- the shortest way to an array is as long as the level at most
pub record IsShort (ms : Members Number) (n : ℕ) (v : Json) : Type 0 where
  pub steps : ℕ
  pub within : steps ≤ n
  pub reach : ReachesWithin ms steps v
  pub level : HasLevel ms steps v

pub short_way : (ms : Members Number) (n : ℕ) (v : Json) → ReachesWithin ms n v → IsShort ms n v
short_way ms zero v h = absurd h
short_way ms (suc n) v (type, parts, complex, inl found) =
    record { steps = 1; within = omega arith; reach = (type, parts, complex, inl found); level = (type, parts, complex, inl refl) }
short_way ms (suc n) v (type, parts, complex, inr (part, among, reach)) =
    let short = short_way ms n part reach in
    let within = short.within in
    record { steps = suc short.steps; within = omega (arith, within); reach = (type, parts, complex, inr (part, among, short.reach)); level = (type, parts, complex, inr (part, among, short.level)) }

-- what an object is, where it is a complex schema
pub object_complex : (ms : Members Number) (os : Members Number) (type : Element) (parts : List Json) → IsComplex ms (object os) type parts
    → (schema_type (object os) ≡ Some type) × (schema_parts (object os) ≡ parts)
object_complex ms os type parts c = elim c.leads [
  | inl same ↦ (ap schema_type same ∙ c.typed, ap schema_parts same ∙ c.parted)
  | inr named ↦ let e = named.1 in cc
]

pub object_is : (ms : Members Number) (os : Members Number) (type : Element) → schema_type (object os) ≡ Some type → IsComplex ms (object os) type (schema_parts (object os))
object_is ms os type typed = record { whole = object os; leads = inl refl; typed = typed; parted = refl }

-- what a text names, where it names a complex schema
pub text_complex : (ms : Members Number) (bytes : List ℕ) (type : Element) (parts : List Json) → IsComplex ms (text bytes) type parts
    → (whole : Json) × (IsPrimitiveName bytes → ⊥) × (schema_named ms bytes ≡ Some whole) × (schema_type whole ≡ Some type) × (schema_parts whole ≡ parts)
text_complex ms bytes type parts c = elim c.leads [
  | inl same ↦ let e : None ≡ Some type = ap schema_type same ∙ c.typed in cc
  | inr named ↦
      let e : bytes ≡ named.0 = cc in
      (c.whole, λ p. named.2 (subst (λ (b : List ℕ). IsPrimitiveName b) e p), ap (schema_named ms) e ∙ named.3, c.typed, c.parted)
]

-- a text names what an object of `schemas` is
pub text_is : (ms : Members Number) (bytes : List ℕ) (os : Members Number) → (IsPrimitiveName bytes → ⊥) → schema_named ms bytes ≡ Some (object os)
    → (type : Element) (parts : List Json) → IsComplex ms (object os) type parts → IsComplex ms (text bytes) type parts
text_is ms bytes os other named type parts c =
    let is = object_complex ms os type parts c in
    record { whole = object os; leads = inr (bytes, refl, other, named); typed = is.0; parted = is.1 }

pub object_of_text : (ms : Members Number) (bytes : List ℕ) (os : Members Number) → schema_named ms bytes ≡ Some (object os)
    → (type : Element) (parts : List Json) → IsComplex ms (text bytes) type parts → IsComplex ms (object os) type parts
object_of_text ms bytes os named type parts c =
    let t = text_complex ms bytes type parts c in
    let same : t.0 ≡ object os = (let e : Some t.0 ≡ Some (object os) = sym t.2 ∙ named in cc) in
    record { whole = object os; leads = inl refl; typed = ap schema_type (sym same) ∙ t.3; parted = ap schema_parts (sym same) ∙ t.4 }

module _ (ms : Members Number) (v w : Json) (same : (type : Element) (parts : List Json) → IsComplex ms v type parts → IsComplex ms w type parts) where
  pub level_along : (j : ℕ) → HasLevel ms j v → HasLevel ms j w
  level_along zero h = tt
  level_along (suc j) (type, parts, complex, rest) = (type, parts, same type parts complex, rest)

  pub reach_along : (j : ℕ) → ReachesWithin ms j v → ReachesWithin ms j w
  reach_along zero h = absurd h
  reach_along (suc j) (type, parts, complex, rest) = (type, parts, same type parts complex, rest)
