-- Refusals that are judged one after another.
use Rattle.std.proofs.Common.{◌≡◌, inl, inr, Option, Some, None, Result, Ok, Err, sym, subst}
use Rattle.std.specs.Prelude.{MatchResult}
use Rattle.graph_asks.specs.declared.refusal.Refusal.{Refusal}
use Rattle.graph_steps.specs.Refusals.{or_refuse}
use Rattle.graph_steps.specs.bodies.Bodies.{FailsBy}
use Rattle.graph_steps.specs.declared.bodies.failure.BodyFailure.{BodyFailure}
use Rattle.graph_steps.specs.declared.bodies.failure.BodyFailure.TheVariants as failures
use Rattle.graph_steps.specs.held.Judged.{Unrefused}
use Rattle.graph_judges.specs.links.Machinery.Refused.{TellsRefusal}

-- ---- failures
pub refused_by : (x : Refusal) (P : Refusal → Type 0) → P x → (f : BodyFailure) → FailsBy (λ r. r ≡ x) f → FailsBy P f
refused_by x P p (failures.Refused r) h = subst P (sym h) p
refused_by x P p failures.OutOfMemory h = tt

pub fails_so : (P Q : Refusal → Type 0) → ((r : Refusal) → P r → Q r) → (f : BodyFailure) → FailsBy P f → FailsBy Q f
fails_so P Q up (failures.Refused r) h = up r h
fails_so P Q up failures.OutOfMemory h = tt

-- ---- one and then another
module _ (First Second : Refusal → Type 0) where
  pub first_fails : (f : BodyFailure) → FailsBy First f → FailsBy (or_refuse First Second) f
  first_fails f h = fails_so First (or_refuse First Second) (λ r p. inl p) f h

  pub neither : Unrefused First → Unrefused Second → Unrefused (or_refuse First Second)
  neither a b r (inl h) = a r h
  neither a b r (inr h) = b r h.1

  pub later : {X : Type 0} (Good : X → Type 0) (result : Result X BodyFailure) → Unrefused First
      → MatchResult result (λ x. Unrefused Second × Good x) (FailsBy Second) → MatchResult result (λ x. Unrefused (or_refuse First Second) × Good x) (FailsBy (or_refuse First Second))
  later Good (Ok x) free h = (neither free h.0, h.1)
  later Good (Err f) free h = fails_so Second (or_refuse First Second) (λ r p. inr (free, p)) f h

  pub told_first : (r : Refusal) → First r → TellsRefusal (or_refuse First Second) (Some r)
  told_first r h = inl h

  pub told_later : Unrefused First → (o : Option Refusal) → TellsRefusal Second o → TellsRefusal (or_refuse First Second) o
  told_later free None h = neither free h
  told_later free (Some r) h = inr (free, h)

-- ---- three
module _ (A B C : Refusal → Type 0) where
  pub of_two : (r : Refusal) → or_refuse A B r → or_refuse A (or_refuse B C) r
  of_two r (inl a) = inl a
  of_two r (inr b) = inr (b.0, inl b.1)

  no_a : Unrefused (or_refuse A B) → Unrefused A
  no_a free r a = free r (inl a)

  no_b : Unrefused (or_refuse A B) → Unrefused B
  no_b free r b = free r (inr (no_a free, b))

  pub of_both : Unrefused (or_refuse A B) → {X : Type 0} (Good : X → Type 0) (result : Result X BodyFailure)
      → MatchResult result (λ x. Unrefused C × Good x) (FailsBy C) → MatchResult result (λ x. Unrefused (or_refuse A (or_refuse B C)) × Good x) (FailsBy (or_refuse A (or_refuse B C)))
  of_both free Good (Ok x) h = (neither A (or_refuse B C) (no_a free) (neither B C (no_b free) h.0), h.1)
  of_both free Good (Err f) h = fails_so C (or_refuse A (or_refuse B C)) (λ r c. inr (no_a free, inr (no_b free, c))) f h
