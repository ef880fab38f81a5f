-- What follows an answer.
use Rattle.std.proofs.Common.{◌≡◌, inl, inr}
use Rattle.graph_asks.specs.Answers.{Answer, body, created, canon, done, refused}
use Rattle.graph_asks.specs.declared.ask.Ask.{Ask}
use Rattle.graph_asks.specs.declared.refusal.Refusal.{Refusal}
use Rattle.graph_steps.specs.States.{State}
use Rattle.graph_steps.specs.Steps.{Refuses, Answers, changed, followed}

-- What a state keeps where an ask changes it, it keeps in the state that follows.
module _ (P : State → Type 0) (s : State) (ask : Ask) (kept : P s) (moved : ((r : Refusal) → Refuses s ask r → ⊥) → P (changed s ask)) where
  given : (answer : Answer) → ((r : Refusal) → answer ≡ refused r → ⊥) → Answers s ask answer → P (changed s ask)
  given answer other (inl (r, h, e)) = absurd (other r e)
  given answer other (inr (none, g)) = moved none

  pub after : (answer : Answer) → Answers s ask answer → P (followed s ask answer)
  after (refused r) h = kept
  after (body v) h = given (body v) (λ r e. cc) h
  after (created v) h = given (created v) (λ r e. cc) h
  after (canon bytes) h = given (canon bytes) (λ r e. cc) h
  after done h = given done (λ r e. cc) h
