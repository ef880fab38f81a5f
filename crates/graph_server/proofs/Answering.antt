-- From what the routes and the graph answer to what a service answers.
use Rattle.std.proofs.Common.{◌≡◌, List, [], ◌∷◌, true, false, Some, None, Result, Ok, Err, refl, subst}
use Rattle.std.specs.Prelude.{MatchResult}
use Rattle.http_ends.specs.declared.request.Request.{Request}
use Rattle.http_session.specs.Answers.{Answers}
use Rattle.http_session.specs.declared.service.Answer.{Answer}
use Rattle.http_session.specs.declared.service.Trouble.{Trouble}
use Rattle.http_session.specs.declared.service.Trouble.TheVariants.{NoEntry, EntryInHand}
use Rattle.graph_asks.specs.Answers.{answer_of}
use Rattle.graph_asks.specs.declared.ask.Ask.{Ask}
use Rattle.graph_asks.specs.declared.refusal.Refusal.{Refusal}
use Rattle.graph_asks.specs.declared.reply.Reply.{Reply}
use Rattle.graph_routes.specs.Prepared.{IsPrepared}
use Rattle.graph_routes.specs.Responses.{response_for, response_to}
use Rattle.graph_routes.specs.declared.prepared.Prepared.{Prepared}
use Rattle.graph_routes.specs.declared.prepared.Prepared.TheVariants as prepared
use Rattle.graph_server.specs.Entries.{Entry, entry, own_response, enters}
use Rattle.graph_server.specs.Machinery.Asking.{IsAsked}

pub made : (request : Request) (p : Prepared) (ask : Ask) → IsPrepared request p → p ≡ prepared.Ask ask → IsPrepared request (prepared.Ask ask)
made request p ask h is = subst (IsPrepared request) is h

pub decided : (request : Request) (p : Prepared) (r : Refusal) → IsPrepared request p → p ≡ prepared.Own r → IsPrepared request (prepared.Own r)
decided request p r h is = subst (IsPrepared request) is h

-- A service that goes from one moment to another.
module _ {D : Type 0} (goes : D → List Entry → D → Type 0) (before after : D) where
  -- the reply has its entry, and was made an answer
  pub replied : (ask : Ask) (reply : Reply) (result : Result Answer Trouble) → goes before (entry ask (answer_of reply) ∷ []) after
      → MatchResult result (λ answer. (answer.response ≡ response_for reply) × (answer.entered ≡ true)) (λ trouble. trouble ≡ EntryInHand)
      → IsAsked goes before ask after result
  replied ask reply (Ok answer) went (response, entered) = (reply, went, response, entered)
  replied ask reply (Err NoEntry) went e = absurd cc
  replied ask reply (Err EntryInHand) went e = (reply, went)

  pub asked : (request : Request) (ask : Ask) (result : Result Answer Trouble) → IsPrepared request (prepared.Ask ask) → IsAsked goes before ask after result
      → Answers own_response enters goes before after request result
  asked request ask (Ok answer) is (reply, went, response, entered) = (Some (entry ask (answer_of reply)), went, (is, (reply, refl, response)), entered)
  asked request ask (Err NoEntry) is went = went
  asked request ask (Err EntryInHand) is (reply, went) = (entry ask (answer_of reply), response_for reply, went, (is, (reply, refl, refl)))

  pub refused : (request : Request) (refusal : Refusal) (result : Result Answer Trouble) → IsPrepared request (prepared.Own refusal) → goes before [] after
      → MatchResult result (λ answer. (answer.response ≡ response_to refusal) × (answer.entered ≡ false)) (λ trouble. trouble ≡ NoEntry)
      → Answers own_response enters goes before after request result
  refused request refusal (Ok answer) is went (response, entered) = (None, went, (refusal, is, response), entered)
  refused request refusal (Err NoEntry) is went e = went
  refused request refusal (Err EntryInHand) is went e = absurd cc
