-- Durations: `P`, parts in this order, each a number and its mark, or weeks alone.
use Rattle.std.specs.Prelude.{◌≡◌, ℕ, ◌≤◌, ◌<◌, ◌⊎◌, List, [], ◌∷◌, ◌++◌, length}
use Rattle.std.specs.List.{AllByRecursion}
use Rattle.json_decimal.specs.Literal.{IsDigit}

-- From one digit to nine.
pub record IsCount (bytes : List ℕ) : Type 0 where
  pub some : 1 ≤ length bytes
  pub few : length bytes ≤ 9
  pub digits : AllByRecursion IsDigit bytes

-- Nothing, or a number and a mark.
abbrev pub IsDurationPart : ℕ → List ℕ → Type 0
IsDurationPart mark bytes = (bytes ≡ []) ⊎ ((count : List ℕ) × IsCount count × (bytes ≡ count ++ mark ∷ []))

-- The same for seconds, which may have a point and up to nine digits more.
abbrev pub IsSeconds : List ℕ → Type 0
IsSeconds bytes = IsDurationPart 83 bytes
    ⊎ ((count more : List ℕ) × IsCount count × IsCount more × (bytes ≡ count ++ 46 ∷ (more ++ 83 ∷ [])))

-- `T`, and hours, minutes and seconds, at least one of them.
pub record IsTimePart (bytes : List ℕ) : Type 0 where
  pub hours : List ℕ
  pub minutes : List ℕ
  pub seconds : List ℕ
  pub are_hours : IsDurationPart 72 hours
  pub are_minutes : IsDurationPart 77 minutes
  pub are_seconds : IsSeconds seconds
  pub some : 0 < length (hours ++ (minutes ++ seconds))
  pub spelled : bytes ≡ 84 ∷ (hours ++ (minutes ++ seconds))

-- Years, months, days and a time, at least one of them.
pub record IsDateAndTime (bytes : List ℕ) : Type 0 where
  pub years : List ℕ
  pub months : List ℕ
  pub days : List ℕ
  pub time : List ℕ
  pub are_years : IsDurationPart 89 years
  pub are_months : IsDurationPart 77 months
  pub are_days : IsDurationPart 68 days
  pub is_time : (time ≡ []) ⊎ IsTimePart time
  pub some : 0 < length bytes
  pub spelled : bytes ≡ years ++ (months ++ (days ++ time))

pub record IsWeeks (bytes : List ℕ) : Type 0 where
  pub count : List ℕ
  pub is_count : IsCount count
  pub spelled : bytes ≡ count ++ 87 ∷ []

pub record IsDuration (bytes : List ℕ) : Type 0 where
  pub parts : List ℕ
  pub are_parts : IsDateAndTime parts ⊎ IsWeeks parts
  pub spelled : bytes ≡ 80 ∷ parts
