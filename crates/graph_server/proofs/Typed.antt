-- Every state of a legal history from a well-typed state is well typed.
use Rattle.std.proofs.Common.{◌≡◌, List, [], ◌∷◌, subst}
use Rattle.graph_asks.specs.Answers.{Answer}
use Rattle.graph_asks.specs.declared.ask.Ask.{Ask}
use Rattle.graph_steps.specs.Soundness.{IsSoundAsk}
use Rattle.graph_steps.specs.States.{State, empty}
use Rattle.graph_steps.specs.Steps.{Answers, followed}
use Rattle.graph_steps.specs.Typed.{WellTyped}
use Rattle.graph_steps.specs.invariants.Frozen.{FrozenStay}
use Rattle.graph_server.specs.Entries.{Entry, IsLegalHistory, follows_entry}
use Rattle.graph_server.specs.Histories.{IsTypedHistory}

module _ (keeps : (s : State) (ask : Ask) (answer : Answer) → WellTyped s → IsSoundAsk ask → Answers s ask answer → WellTyped (followed s ask answer)) (stays : (s : State) (ask : Ask) (answer : Answer) → WellTyped s → Answers s ask answer → FrozenStay s ask (followed s ask answer)) where
  pub typed : (s t : State) (es : List Entry) → WellTyped s → IsLegalHistory s es t → IsTypedHistory s es
  typed s t [] well legal = well
  typed s t (e ∷ es) well ((sound, answers), legal) = (
    well,
    stays s e.ask e.answer well answers,
    typed (follows_entry s e) t es (keeps s e.ask e.answer well sound answers) legal,
  )

pub from_empty : (s t : State) (es : List Entry) → s ≡ empty → IsLegalHistory s es t → IsLegalHistory empty es t
from_empty s t es is h = subst (λ x. IsLegalHistory x es t) is h
