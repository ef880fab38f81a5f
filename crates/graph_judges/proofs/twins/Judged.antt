-- What is refused for one reason or else for another.
use Rattle.std.proofs.Common.{inl, inr, Result, Ok, Err}
use Rattle.std.specs.Prelude.{MatchResult}
use Rattle.graph_asks.specs.declared.refusal.Refusal.{Refusal}
use Rattle.graph_steps.specs.bodies.Bodies.{FailsBy}
use Rattle.graph_steps.specs.declared.bodies.failure.BodyFailure.{BodyFailure}
use Rattle.graph_steps.specs.declared.bodies.failure.BodyFailure.TheVariants as failures
use Rattle.graph_steps.specs.Refusals.{or_refuse}
use Rattle.graph_steps.specs.held.Judged.{Unrefused}

pub fails_as : (First Second : Refusal → Type 0) → ((r : Refusal) → First r → Second r) → (e : BodyFailure) → FailsBy First e → FailsBy Second e
fails_as First Second weaker (failures.Refused r) h = weaker r h
fails_as First Second weaker failures.OutOfMemory h = tt

pub free_both : (First Second : Refusal → Type 0) → Unrefused First → Unrefused Second → Unrefused (or_refuse First Second)
free_both First Second first second r (inl h) = first r h
free_both First Second first second r (inr h) = second r h.1

-- ---- results
module _ {A : Type 0} (P Q : A → Type 0) (First Second : Refusal → Type 0) where
  pub judged_as : ((a : A) → P a → Q a) → ((r : Refusal) → First r → Second r) → (res : Result A BodyFailure) → MatchResult res P (FailsBy First) → MatchResult res Q (FailsBy Second)
  judged_as good bad (Ok a) h = good a h
  judged_as good bad (Err e) h = fails_as First Second bad e h

-- Judged for the second reason where nothing is refused for the first.
pub judged_second : {A : Type 0} (E : A → Type 0) (First Second : Refusal → Type 0) → Unrefused First → (res : Result A BodyFailure)
    → MatchResult res (λ a. Unrefused Second × E a) (FailsBy Second) → MatchResult res (λ a. Unrefused (or_refuse First Second) × E a) (FailsBy (or_refuse First Second))
judged_second E First Second free res h =
    judged_as (λ a. Unrefused Second × E a) (λ a. Unrefused (or_refuse First Second) × E a) Second (or_refuse First Second) (λ a k. (free_both First Second free k.0, k.1)) (λ r k. inr (free, k)) res h
