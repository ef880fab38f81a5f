-- Asks that are judged before anything changes.
use Rattle.graph_asks.specs.declared.refusal.Refusal.{Refusal}

-- Nothing is refused so.
abbrev pub Unrefused : (Refusal → Type 0) → Type 0
Unrefused Refuses = (r : Refusal) → Refuses r → ⊥
