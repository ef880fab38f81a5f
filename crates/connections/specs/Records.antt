-- What is known of a link at one moment, and what lists of records lose and gain.
use Rattle.std.specs.Prelude.{◌≡◌, ℕ, List, [], ◌∷◌, ◌++◌, Option, Some, None, ⊤, refl}
use Rattle.std.specs.Coded.{Coded, code_by, coded×, coded_list, coded_option, coded_ℕ}

-- The record of a link: the bytes that are left to read from it and those that it has taken, where they are told,
-- and its count of faults.
pub record LinkRecord : Type 0 where
  pub left : Option (List ℕ)
  pub taken : Option (List ℕ)
  pub faults : ℕ

-- A record is stored as the pairs of its fields.
abbrev pub record_code : Coded LinkRecord
record_code = code_by ((Option (List ℕ) × Option (List ℕ)) × ℕ)
    (coded× (coded× (coded_option (coded_list coded_ℕ)) (coded_option (coded_list coded_ℕ))) coded_ℕ)
    (λ r. ((r.left, r.taken), r.faults)) (λ p. record { left = p.0.0; taken = p.0.1; faults = p.1 }) (λ _. refl)

-- Told entries begin with this one, and lose it.
abbrev pub Takes : {A : Type 0} → Option (List A) → Option (List A) → A → Type 0
Takes None now entry = ⊤
Takes (Some before) None entry = ⊥
Takes (Some before) (Some now) entry = before ≡ entry ∷ now

-- Told entries gain this one, as the last.
abbrev pub Gains : {A : Type 0} → Option (List A) → Option (List A) → A → Type 0
Gains None now entry = ⊤
Gains (Some before) None entry = ⊥
Gains (Some before) (Some now) entry = now ≡ before ++ entry ∷ []
