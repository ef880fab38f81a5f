-- Refusals in their order: the first whose condition holds.
use Rattle.std.specs.Prelude.{◌≡◌, ◌⊎◌}
use Rattle.graph_asks.specs.declared.refusal.Refusal.{Refusal}

-- Refused for the first, or where nothing is refused for that, for the second.
abbrev pub or_refuse : (Refusal → Type 0) → (Refusal → Type 0) → Refusal → Type 0
or_refuse First Second r = First r ⊎ (((q : Refusal) → First q → ⊥) × Second r)

-- This refusal, where the condition holds.
abbrev pub refuse_when : Type 0 → Refusal → Refusal → Type 0
refuse_when Condition refusal r = Condition × (r ≡ refusal)

abbrev pub never : Refusal → Type 0
never r = ⊥
