-- Breaches that show without a model, and the roles in which they are looked for.
use Rattle.std.specs.Prelude.{ℕ, ◌<◌, ◌≤◌, List, ◌∷◌, Bool, true, false, Option}
use Rattle.json_tree.specs.Values.{Json}
use Rattle.twin_value.specs.Codes.{code_number}
use Rattle.twin_value.specs.Roles.{Role, undeclared, twin_body, part_body, link_body, value, body_member_role}
use Rattle.twin_value.specs.Breaches.{BreaksBody, IsBodyBreach}
use Rattle.twin_value.specs.Machinery.Walks.{FindsFirstBodyBreach}
use Rattle.twin_value.specs.declared.code.BodyCode.{BodyCode}
use Rattle.twin_value.specs.declared.walk.Found.{Found}

-- A breach in a role, of one of the first three codes.
abbrev pub IsOuterBodyBreach : Role → Json → List ℕ → BodyCode → Type 0
IsOuterBodyBreach r v place broken = IsBodyBreach r v place broken × (code_number broken ≤ 3)

-- No model is asked of what stands in such a role.
abbrev pub IsMild : Role → Type 0
IsMild (twin_body l cs) = ⊥
IsMild (part_body l cs) = ⊥
IsMild (link_body l from ps) = ⊥
IsMild (value ns s) = ⊥
IsMild other = Unit {0}

abbrev pub is_undeclared : Role → Bool
is_undeclared undeclared = true
is_undeclared other = false

-- The role of a body whose members are in such roles.
abbrev pub IsOutermost : Role → Type 0
IsOutermost (twin_body l cs) = (key : List ℕ) → IsMild (body_member_role (twin_body l cs) key)
IsOutermost (link_body l from ps) = (key : List ℕ) → IsMild (body_member_role (link_body l from ps) key)
IsOutermost other = ⊥

-- The way up from the first such breach, where the value itself breaks nothing.
abbrev pub FindsOuterBelow : Role → Json → Option Found → Type 0
FindsOuterBelow r v found = ((broken : BodyCode) → BreaksBody broken r v → ⊥) → FindsFirstBodyBreach (IsOuterBodyBreach r v) found

-- The parts before this position have none.
pub record IsOuterClearTo (r : Role) (v : Json) (at : ℕ) : Type 0 where
  pub clear : (position : ℕ) (place : List ℕ) (broken : BodyCode) → position < at → IsBodyBreach r v (position ∷ place) broken → code_number broken ≤ 3 → ⊥
