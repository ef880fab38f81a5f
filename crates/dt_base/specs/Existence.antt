-- That there is one. The logic has no law of the excluded middle, so this says that it is refuted that there is none.
abbrev pub IsThere : Type 0 → Type 0
IsThere A = (A → ⊥) → ⊥
