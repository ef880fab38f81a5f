-- What the walk over an interface answers. Its values stand in marked roles.
use Rattle.std.specs.Prelude.{◌≡◌, ℕ, ◌<◌, ◌⊎◌, ◌↔◌, List, ◌∷◌, reverse, Option, Some, None, true}
use Rattle.std.specs.Option.{option_map}
use Rattle.std.specs.Global.{Vec}
use Rattle.std.specs.Borrow.{Bor}
use Rattle.std.specs.Ordering.{nat_cmp}
use Rattle.std.specs.Cmp.Lexicographic.{slice_cmp}
use Rattle.std.specs.BTreeSet.{BTreeSet, contains_by}
use Rattle.json_decimal.specs.Number.{Number}
use Rattle.json_tree.specs.Values.{Json, text, Members}
use Rattle.json_tree.specs.Places.{IsBefore, IsPart}
use Rattle.local_rules.specs.Identifiers.{IsIdRole}
use Rattle.json_tree.specs.Members.{text_in}
use Rattle.local_rules.specs.Breaches.{BreaksAlone, BreaksById, BreaksBySchemas, ComesBefore, IsFirstOf}
use Rattle.local_rules.specs.Machinery.Marks.{BreaksMark, HasMarkedRole, part_marked}
use Rattle.local_rules.specs.declared.marks.MarkedRole.{MarkedRole}
use Rattle.local_rules.specs.declared.rule.LocalRule.{LocalRule}
use Rattle.local_rules.specs.declared.rule.LocalRule.TheVariants as rule
use Rattle.local_rules.specs.declared.role.Role.{Role}
use Rattle.local_rules.specs.declared.role.Role.TheVariants as role
use Rattle.local_faults.specs.declared.walk.Found.{Found}

-- A value in a marked role breaks a rule, in an interface with these members, where these `@id`s stand before it.
abbrev pub BreaksMarked : Members Number → (List ℕ → Type 0) → LocalRule → MarkedRole → Json → Type 0
BreaksMarked ms IsEarlier broken r v = (BreaksAlone broken r.role v ⊎ BreaksMark broken r)
    ⊎ (BreaksBySchemas ms broken r.role v ⊎ BreaksById IsEarlier broken r.role v)

-- This text stands as an `@id` in a value that stands in a marked role.
pub record HasIdInside (r : MarkedRole) (v : Json) (bytes : List ℕ) : Type 0 where
  pub place : List ℕ
  pub within : MarkedRole
  pub stands : HasMarkedRole r v place within (text bytes)
  pub is_id : IsIdRole within.role

-- The same before a place of the value.
pub record HasIdBefore (r : MarkedRole) (v : Json) (place : List ℕ) (bytes : List ℕ) : Type 0 where
  pub earlier : List ℕ
  pub within : MarkedRole
  pub before : IsBefore earlier place
  pub stands : HasMarkedRole r v earlier within (text bytes)
  pub is_id : IsIdRole within.role

-- The same in the parts of the value before this position.
pub record HasIdInPartBefore (r : MarkedRole) (v : Json) (at : ℕ) (bytes : List ℕ) : Type 0 where
  pub position : ℕ
  pub less : position < at
  pub within : MarkedRole
  pub part : Json
  pub is_part : IsPart v position part
  pub has_role : part_marked r v position ≡ Some within
  pub id : HasIdInside within part bytes

-- A rule is broken at a place of a value that stands in a role, in an interface with these members, where these
-- `@id`s stand before the value.
pub record IsBrokenFrom (ms : Members Number) (IsEarlier : List ℕ → Type 0) (r : MarkedRole) (v : Json) (place : List ℕ) (broken : LocalRule) : Type 0 where
  pub within : MarkedRole
  pub part : Json
  pub stands : HasMarkedRole r v place within part
  pub breaks : BreaksMarked ms (λ bytes. IsEarlier bytes ⊎ HasIdBefore r v place bytes) broken within part

-- The way up from the first breach and its rule, so that the steps stand in reverse.
pub record IsFirstBroken (Broken : List ℕ → LocalRule → Type 0) (up : List ℕ) (broken : LocalRule) : Type 0 where
  pub breach : Broken (reverse up) broken
  pub least : (other : List ℕ) (another : LocalRule) → ComesBefore other another (reverse up) broken → Broken other another → ⊥

-- The way up from the first breach; None where there is none.
abbrev pub FindsFirst : (List ℕ → LocalRule → Type 0) → Option Found → Type 0
FindsFirst Broken None = (place : List ℕ) (broken : LocalRule) → Broken place broken → ⊥
FindsFirst Broken (Some found) = IsFirstBroken Broken found.steps.items found.rule

-- The breach with this way up from it and this rule; None where there is none.
abbrev pub found_by : Vec ℕ → Option LocalRule → Option Found
found_by steps rule = option_map (λ broken. record { steps = steps; rule = broken }) rule

-- The set has this text.
pub record IsNoted (ids : BTreeSet (Bor (List ℕ))) (bytes : List ℕ) : Type 0 where
  pub among : contains_by (λ id. slice_cmp nat_cmp bytes id.now) ids ≡ true

-- The first breach in a value that stands in a role, where the set has the `@id`s before it; where there is none,
-- the set afterwards has the value's too.
pub record Walks (ms : Members Number) (before after : BTreeSet (Bor (List ℕ))) (r : MarkedRole) (v : Json) (found : Option Found) : Type 0 where
  pub first : FindsFirst (IsBrokenFrom ms (IsNoted before) r v) found
  pub ids : found ≡ None → (bytes : List ℕ) → IsNoted after bytes ↔ (IsNoted before bytes ⊎ HasIdInside r v bytes)

-- The same of a part; what has no role has no breach, and its `@id`s are none.
abbrev pub WalksPart : Members Number → BTreeSet (Bor (List ℕ)) → BTreeSet (Bor (List ℕ)) → Option MarkedRole → Json → Option Found → Type 0
WalksPart ms before after None v found = (found ≡ None) × (after ≡ before)
WalksPart ms before after (Some r) v found = Walks ms before after r v found

-- The parts before this position have no breach, and the set has the `@id`s before it.
pub record IsWalkedTo (ms : Members Number) (before now : BTreeSet (Bor (List ℕ))) (r : MarkedRole) (v : Json) (at : ℕ) : Type 0 where
  pub clear : (position : ℕ) (place : List ℕ) (broken : LocalRule) → position < at → IsBrokenFrom ms (IsNoted before) r v (position ∷ place) broken → ⊥
  pub ids : (bytes : List ℕ) → IsNoted now bytes ↔ (IsNoted before bytes ⊎ HasIdInPartBefore r v at bytes)

-- The value itself breaks no rule.
abbrev pub IsClearHere : Members Number → BTreeSet (Bor (List ℕ)) → MarkedRole → Json → Type 0
IsClearHere ms before r v = (broken : LocalRule) → BreaksMarked ms (IsNoted before) broken r v → ⊥

-- The same as `Walks` where the value itself breaks no rule.
abbrev pub WalksClear : Members Number → BTreeSet (Bor (List ℕ)) → BTreeSet (Bor (List ℕ)) → MarkedRole → Json → Option Found → Type 0
WalksClear ms before after r v found = IsClearHere ms before r v → Walks ms before after r v found

-- The value itself is this `@id`.
pub record IsId (r : Role) (v : Json) (bytes : List ℕ) : Type 0 where
  pub is_id : IsIdRole r
  pub is_text : v ≡ text bytes

-- The first rule that the value itself breaks; where there is none, the set afterwards has the `@id` that it is.
pub record JudgesMarked (ms : Members Number) (before after : BTreeSet (Bor (List ℕ))) (r : MarkedRole) (v : Json) (found : Option LocalRule) : Type 0 where
  pub first : IsFirstOf (λ broken. BreaksMarked ms (IsNoted before) broken r v) found
  pub ids : found ≡ None → (bytes : List ℕ) → IsNoted after bytes ↔ (IsNoted before bytes ⊎ IsId r.role v bytes)

-- The same by the rule on `@id`s alone.
pub record JudgesId (before after : BTreeSet (Bor (List ℕ))) (r : Role) (v : Json) (found : Option LocalRule) : Type 0 where
  pub first : IsFirstOf (λ broken. BreaksById (IsNoted before) broken r v) found
  pub ids : found ≡ None → (bytes : List ℕ) → IsNoted after bytes ↔ (IsNoted before bytes ⊎ IsId r v bytes)

-- The text that a value is as an `@id`.
abbrev pub id_in_role : Role → Json → Option (List ℕ)
id_in_role role.InterfaceId v = text_in v
id_in_role role.ElementId v = text_in v
id_in_role other v = None

-- The text stood in the set and breaks the rule, or it did not, and the set afterwards has it too.
abbrev pub NotesId : BTreeSet (Bor (List ℕ)) → BTreeSet (Bor (List ℕ)) → List ℕ → Option LocalRule → Type 0
NotesId before after id None = (IsNoted before id → ⊥) × ((bytes : List ℕ) → IsNoted after bytes ↔ (IsNoted before bytes ⊎ (id ≡ bytes)))
NotesId before after id (Some broken) = IsNoted before id × (broken ≡ rule.RepeatedId)
