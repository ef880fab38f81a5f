-- Choices by a test, and the tests of bytes.
use Rattle.std.proofs.Common.{◌≡◌, ℕ, ◌≤◌, ◌<◌, Bool, true, false, cond, ◌&&◌, nat_eq, nat_le, ◌⊎◌, inl, inr, refl, rules}

-- what holds of each side that can be chosen holds of the choice
pub choose : {A : Type 0} (P : A → Type 0) (c : Bool) (x y : A) → (c ≡ true → P x) → (c ≡ false → P y) → P (cond c x y)
choose P true x y p q = p refl
choose P false x y p q = q refl

-- what holds of the choice holds of a side that was chosen
pub chosen : {A : Type 0} (P : A → Type 0) (c : Bool) (x y : A) → P (cond c x y) → ((c ≡ true) × P x) ⊎ ((c ≡ false) × P y)
chosen P true x y p = inl (refl, p)
chosen P false x y p = inr (refl, p)

pub is_byte : (b n : ℕ) → nat_eq b n ≡ true → b ≡ n
is_byte b n h = search rules

pub is_byte-in : (b n : ℕ) → b ≡ n → nat_eq b n ≡ true
is_byte-in b n h = search rules

pub no_byte : (b n : ℕ) → nat_eq b n ≡ false → b ≡ n → ⊥
no_byte b n h e = search rules

pub no_byte-in : (b n : ℕ) → (b ≡ n → ⊥) → nat_eq b n ≡ false
no_byte-in b n h = search rules

pub is_within : (b low high : ℕ) → (nat_le low b && nat_le b high) ≡ true → (low ≤ b) × (b ≤ high)
is_within b low high h = search rules

pub is_within-in : (b low high : ℕ) → low ≤ b → b ≤ high → (nat_le low b && nat_le b high) ≡ true
is_within-in b low high p q = search rules

pub not_within : (b low high : ℕ) → (nat_le low b && nat_le b high) ≡ false → low ≤ b → b ≤ high → ⊥
not_within b low high h p q = search rules

pub not_within-in : (b low high : ℕ) → (b < low) ⊎ (high < b) → (nat_le low b && nat_le b high) ≡ false
not_within-in b low high h = search rules
