-- What is not refused.
use Rattle.std.proofs.Common.{◌≡◌, inl, inr, refl, Option, Some, None}
use Rattle.graph_asks.specs.declared.refusal.Refusal.{Refusal}
use Rattle.graph_steps.specs.Refusals.{or_refuse, refuse_when}

module _ (First Second : Refusal → Type 0) (none : (r : Refusal) → or_refuse First Second r → ⊥) where
  pub not_first : (r : Refusal) → First r → ⊥
  not_first r h = none r (inl h)

  pub not_second : (r : Refusal) → Second r → ⊥
  not_second r h = none r (inr (not_first, h))

pub not_when : (Condition : Type 0) (refusal : Refusal) → ((r : Refusal) → refuse_when Condition refusal r → ⊥) → Condition → ⊥
not_when Condition refusal none c = none refusal (c, refl)

pub none_there : {X : Type 0} (o : Option X) → ((x : X) → o ≡ Some x → ⊥) → o ≡ None
none_there None h = refl
none_there (Some x) h = absurd (h x refl)

pub some_there : {X : Type 0} (o : Option X) → (o ≡ None → ⊥) → (x : X) × (o ≡ Some x)
some_there None h = absurd (h refl)
some_there (Some x) h = (x, refl)
