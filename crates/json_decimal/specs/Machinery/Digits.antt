-- The digits at the front of a text, as the reader walks over them. No public contract speaks of these words.
use Rattle.std.specs.Prelude.{◌≡◌, ℕ, ◌+◌, ◌<◌, ◌⊎◌, ◌&&◌, Bool, false, nat_le, if◌then◌else◌, ◌==◌, List, [], ◌∷◌, length}
use Rattle.json_decimal.specs.Literal.{IsDigit}

abbrev pub is_digit : ℕ → Bool
is_digit b = nat_le 48 b && nat_le b 57

-- the digits at the front
abbrev pub digits_at_front : List ℕ → List ℕ
digits_at_front [] = []
digits_at_front (b ∷ bs) = if is_digit b then b ∷ digits_at_front bs else []

-- what follows them
abbrev pub after : List ℕ → List ℕ
after [] = []
after (b ∷ bs) = if is_digit b then after bs else b ∷ bs

-- no digit stands first
abbrev pub StartsNoDigit : List ℕ → Type 0
StartsNoDigit [] = Unit {0}
StartsNoDigit (b ∷ bs) = IsDigit b → ⊥

-- the digits behind a point, where one stands first
abbrev pub fraction_at : List ℕ → List ℕ
fraction_at [] = []
fraction_at (b ∷ bs) = if b == 46 then digits_at_front bs else []

-- what follows them
abbrev pub rest_at : List ℕ → List ℕ
rest_at [] = []
rest_at (b ∷ bs) = if b == 46 then after bs else b ∷ bs

-- a point stands first, and behind it no digit or, with the count before them, too many
abbrev pub HasNoFraction : ℕ → List ℕ → Type 0
HasNoFraction count [] = ⊥
HasNoFraction count (b ∷ bs) = (b ≡ 46) × ((digits_at_front bs ≡ []) ⊎ (38 < count + length (digits_at_front bs)))

-- the bytes without a minus in front
abbrev pub unsigned : List ℕ → List ℕ
unsigned [] = []
unsigned (b ∷ bs) = if b == 45 then bs else b ∷ bs

abbrev pub starts_with_minus : List ℕ → Bool
starts_with_minus [] = false
starts_with_minus (b ∷ bs) = b == 45
