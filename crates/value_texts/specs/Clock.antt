-- Dates and times (RFC 3339, section 5.6) with each second from 00 to 60 taken at any minute.
use Rattle.std.specs.Prelude.{◌≡◌, ℕ, ◌+◌, ◌/◌, ◌%◌, ◌≤◌, ◌⊎◌, List, [], ◌∷◌, ◌++◌}
use Rattle.std.specs.List.{AllByRecursion}
use Rattle.value_texts.specs.Calendar.{HasDay}
use Rattle.json_decimal.specs.Literal.{IsDigit}

-- A number below 100, and one below 10,000, in decimal digits with zeros in front.
abbrev pub two_digits : ℕ → List ℕ
two_digits n = (48 + n / 10) ∷ (48 + n % 10) ∷ []

abbrev pub four_digits : ℕ → List ℕ
four_digits n = two_digits (n / 100) ++ two_digits (n % 100)

-- `full-date`: a day that there is.
pub record IsDate (bytes : List ℕ) : Type 0 where
  pub year : ℕ
  pub month : ℕ
  pub day : ℕ
  pub last_year : year ≤ 9999
  pub exists : HasDay year month day
  pub spelled : bytes ≡ four_digits year ++ 45 ∷ (two_digits month ++ 45 ∷ two_digits day)

-- Nothing, or a point and one digit or more.
abbrev pub IsFraction : List ℕ → Type 0
IsFraction bytes = (bytes ≡ []) ⊎ ((first : ℕ) × (more : List ℕ) × IsDigit first × AllByRecursion IsDigit more × (bytes ≡ 46 ∷ first ∷ more))

pub record IsNumericOffset (bytes : List ℕ) : Type 0 where
  pub sign : ℕ
  pub hour : ℕ
  pub minute : ℕ
  pub signed : (sign ≡ 43) ⊎ (sign ≡ 45)
  pub last_hour : hour ≤ 23
  pub last_minute : minute ≤ 59
  pub spelled : bytes ≡ sign ∷ (two_digits hour ++ 58 ∷ two_digits minute)

-- `time-offset`: `Z`, `z`, or a sign with hours and minutes.
abbrev pub IsOffset : List ℕ → Type 0
IsOffset bytes = (bytes ≡ 90 ∷ []) ⊎ (bytes ≡ 122 ∷ []) ⊎ IsNumericOffset bytes

-- `full-time`.
pub record IsTime (bytes : List ℕ) : Type 0 where
  pub hour : ℕ
  pub minute : ℕ
  pub second : ℕ
  pub fraction : List ℕ
  pub offset : List ℕ
  pub last_hour : hour ≤ 23
  pub last_minute : minute ≤ 59
  pub last_second : second ≤ 60
  pub is_fraction : IsFraction fraction
  pub is_offset : IsOffset offset
  pub spelled : bytes ≡ two_digits hour ++ 58 ∷ (two_digits minute ++ 58 ∷ (two_digits second ++ (fraction ++ offset)))

-- `date-time`: a date, `T` or `t`, and a time.
pub record IsDateTime (bytes : List ℕ) : Type 0 where
  pub date : List ℕ
  pub mark : ℕ
  pub time : List ℕ
  pub is_date : IsDate date
  pub is_mark : (mark ≡ 84) ⊎ (mark ≡ 116)
  pub is_time : IsTime time
  pub spelled : bytes ≡ date ++ mark ∷ time
