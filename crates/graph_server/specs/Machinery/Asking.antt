-- How an ask of a graph is answered by what goes from one moment to another.
use Rattle.std.specs.Prelude.{◌≡◌, List, [], ◌∷◌, true, Result, Ok, Err}
use Rattle.http_session.specs.declared.service.Answer.{Answer}
use Rattle.http_session.specs.declared.service.Trouble.{Trouble}
use Rattle.http_session.specs.declared.service.Trouble.TheVariants.{NoEntry, EntryInHand}
use Rattle.graph_asks.specs.Answers.{answer_of}
use Rattle.graph_asks.specs.declared.ask.Ask.{Ask}
use Rattle.graph_asks.specs.declared.reply.Reply.{Reply}
use Rattle.graph_routes.specs.Responses.{response_for}
use Rattle.graph_server.specs.Entries.{Entry, entry}

module _ {D : Type 0} (goes : D → List Entry → D → Type 0) where
  -- There is a reply with its entry, and the response is that of it; or memory was wanting, before the entry or after it.
  abbrev pub IsAsked : D → Ask → D → Result Answer Trouble → Type 0
  IsAsked before ask after (Ok answer) =
      (reply : Reply) × goes before (entry ask (answer_of reply) ∷ []) after × (answer.response ≡ response_for reply) × (answer.entered ≡ true)
  IsAsked before ask after (Err NoEntry) = goes before [] after
  IsAsked before ask after (Err EntryInHand) = (reply : Reply) × goes before (entry ask (answer_of reply) ∷ []) after
