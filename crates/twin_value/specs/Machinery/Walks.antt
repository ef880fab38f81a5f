-- What the walk over a body answers.
use Rattle.std.specs.Prelude.{◌≡◌, ℕ, ◌<◌, List, ◌∷◌, reverse, Option, Some, None, IsTrue, false}
use Rattle.json_tree.specs.Values.{Json}
use Rattle.twin_value.specs.Codes.{code_number}
use Rattle.twin_value.specs.Roles.{Role}
use Rattle.twin_value.specs.Fits.{is_object}
use Rattle.twin_value.specs.Breaches.{BreaksBody, IsBodyBreach, IsFirstBodyBreach}
use Rattle.twin_value.specs.declared.code.BodyCode.{BodyCode}
use Rattle.twin_value.specs.declared.code.BodyCode.TheVariants as code
use Rattle.twin_value.specs.declared.walk.Found.{Found}

-- The first code that the value itself breaks.
abbrev pub JudgesBody : Role → Json → Option BodyCode → Type 0
JudgesBody r v None = (broken : BodyCode) → BreaksBody broken r v → ⊥
JudgesBody r v (Some broken) = BreaksBody broken r v × ((other : BodyCode) → code_number other < code_number broken → BreaksBody other r v → ⊥)

-- The same of an object that must not lack something.
abbrev pub Lacking : Type 0 → Json → Option BodyCode → Type 0
Lacking Lack v None = IsTrue (is_object v) × (Lack → ⊥)
Lacking Lack v (Some code.WrongKind) = is_object v ≡ false
Lacking Lack v (Some code.MissingKey) = IsTrue (is_object v) × Lack
Lacking Lack v (Some other) = ⊥

-- The way up from the first breach; None where there is none.
abbrev pub FindsFirstBodyBreach : (List ℕ → BodyCode → Type 0) → Option Found → Type 0
FindsFirstBodyBreach Broken None = (place : List ℕ) (broken : BodyCode) → Broken place broken → ⊥
FindsFirstBodyBreach Broken (Some found) = IsFirstBodyBreach Broken (reverse found.steps.items) found.code

-- The same where the value itself breaks nothing.
abbrev pub FindsClear : Role → Json → Option Found → Type 0
FindsClear r v found = ((broken : BodyCode) → BreaksBody broken r v → ⊥) → FindsFirstBodyBreach (IsBodyBreach r v) found

-- The parts before this position have no breach.
pub record IsClearTo (r : Role) (v : Json) (at : ℕ) : Type 0 where
  pub clear : (position : ℕ) (place : List ℕ) (broken : BodyCode) → position < at → IsBodyBreach r v (position ∷ place) broken → ⊥
