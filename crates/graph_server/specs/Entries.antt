-- The history of a graph that requests lead to: which request leaves which entry, and which entries are legal.
use Rattle.std.specs.Prelude.{◌≡◌, List}
use Rattle.http_ends.specs.declared.request.Request.{Request}
use Rattle.http_ends.specs.declared.response.Response.{Response}
use Rattle.http_session.specs.Legal.{AreLegal}
use Rattle.graph_asks.specs.Answers.{Answer, answer_of}
use Rattle.graph_asks.specs.Asks.{AreOneAsk}
use Rattle.graph_asks.specs.declared.ask.Ask.{Ask}
use Rattle.graph_asks.specs.declared.refusal.Refusal.{Refusal}
use Rattle.graph_asks.specs.declared.reply.Reply.{Reply}
use Rattle.graph_steps.specs.Soundness.{IsSoundAsk}
use Rattle.graph_steps.specs.States.{State}
use Rattle.graph_steps.specs.Steps.{Answers, followed}
use Rattle.graph_routes.specs.Prepared.{IsPrepared}
use Rattle.graph_routes.specs.Responses.{response_for, response_to}
use Rattle.graph_routes.specs.declared.prepared.Prepared.TheVariants as prepared

-- What was asked, and what was answered.
pub record Entry : Type 0 where
  pub ask : Ask
  pub answer : Answer

abbrev pub entry : Ask → Answer → Entry
entry ask answer = record { ask = ask; answer = answer }

-- Two entries are one, but for where in memory the trees, patches and queries of their asks lie.
abbrev pub AreOneEntry : Entry → Entry → Type 0
AreOneEntry e f = AreOneAsk e.ask f.ask × (e.answer ≡ f.answer)

-- ---- requests
-- The request's own bytes decide a refusal, of which this is the response. There is no entry.
abbrev pub own_response : Request → Response → Type 0
own_response request response = (refusal : Refusal) × IsPrepared request (prepared.Own refusal) × (response ≡ response_to refusal)

-- The request makes the ask of the entry, and the response is that of a reply with its answer.
abbrev pub enters : Request → Entry → Response → Type 0
enters request e response = IsPrepared request (prepared.Ask e.ask) × ((reply : Reply) × (answer_of reply ≡ e.answer) × (response ≡ response_for reply))

-- ---- histories
-- The ask is sound, and the answer is one that the state allows to it.
abbrev pub allows : State → Entry → Type 0
allows s e = IsSoundAsk e.ask × Answers s e.ask e.answer

abbrev pub follows_entry : State → Entry → State
follows_entry s e = followed s e.ask e.answer

-- The entries are legal when they are taken in order from the first state to the last.
abbrev pub IsLegalHistory : State → List Entry → State → Type 0
IsLegalHistory s es t = AreLegal allows follows_entry s es t
