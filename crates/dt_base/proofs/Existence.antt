-- What follows where it is refuted that there is none.
use Rattle.std.proofs.Common.{◌≡◌, ℕ, zero, suc, ◌<◌, ◌⊎◌, inl, inr, subst, arith}
use Rattle.std.proofs.lemmas.Bool.{cases_lt}
use Rattle.dt_base.specs.Existence.{IsThere}

pub is_there : {A : Type 0} → A → IsThere A
is_there a none = none a

-- Each claim holds or does not.
pub holds_or_not : (A : Type 0) → IsThere (A ⊎ (A → ⊥))
holds_or_not A none = none (inr (λ a. none (inl a)))

pub from_there : {A B : Type 0} → IsThere A → (A → IsThere B) → IsThere B
from_there there next none = there (λ a. next a none)

pub map_there : {A B : Type 0} → (A → B) → IsThere A → IsThere B
map_there next there none = there (λ a. none (next a))

-- ---- the least number that has a property
-- Below a bound there is a least one, or none.
pub least_or_none : (P : ℕ → Type 0) (bound : ℕ)
    → IsThere (((n : ℕ) × P n × ((k : ℕ) → k < n → P k → ⊥)) ⊎ ((k : ℕ) → k < bound → P k → ⊥))
least_or_none P zero = is_there (inr (λ k less p. absurd (omega (arith, less))))
least_or_none P (suc bound) = from_there (least_or_none P bound) (λ below. elim below [
  | inl found ↦ is_there (inl found)
  | inr none ↦ map_there (λ (here : P bound ⊎ (P bound → ⊥)). elim here [
    | inl p ↦ inl (bound, p, none)
    | inr not ↦ inr (λ k less p. elim (cases_lt k bound) [
      | inl lower ↦ none k lower p
      | inr above ↦ (let same : k ≡ bound = omega (arith, less, above) in not (subst P same p))
    ])
  ]) (holds_or_not (P bound))
])

-- Where one number has the property, there is a least one.
pub least_there : (P : ℕ → Type 0) (m : ℕ) → P m → IsThere ((n : ℕ) × P n × ((k : ℕ) → k < n → P k → ⊥))
least_there P m p = map_there (λ (found : ((n : ℕ) × P n × ((k : ℕ) → k < n → P k → ⊥)) ⊎ ((k : ℕ) → k < suc m → P k → ⊥)). elim found [
  | inl least ↦ least
  | inr none ↦ absurd (none m (omega arith) p)
]) (least_or_none P (suc m))
