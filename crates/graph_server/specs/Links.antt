-- Sessions over links whose requests are asked of one graph, which threads share.
use Rattle.std.specs.Prelude.{◌≡◌, ℕ, List, ◌++◌, map, Option}
use Rattle.std.specs.Io.KnownBytes.{Appends}
use Rattle.http_session.specs.Sessions.{Session}
use Rattle.http_session.specs.declared.ends.SessionEnd.{SessionEnd}
use Rattle.one_history.specs.Histories.{own}
use Rattle.one_history.specs.declared.history.Entry.{Entry as Called}
use Rattle.graph_asks.specs.Answers.{answer_of}
use Rattle.graph_asks.specs.declared.ask.Ask.{Ask}
use Rattle.graph_asks.specs.declared.reply.Reply.{Reply}
use Rattle.graph_routes.specs.Responses.{AnswersMethods}
use Rattle.graph_steps.specs.Soundness.{IsSoundAsk}
use Rattle.graph_server.specs.Entries.{Entry, entry, own_response, enters}

-- An object that answers as a graph does: it may be asked what a graph may be asked, and where it refuses a method, its reply
-- lists those that a path has.
pub record AnswersAsGraph {S : Type 0} (sound : Ask → Type 0) (allowed : S → Ask → Reply → Type 0) : Type 0 where
  pub asks : (ask : Ask) → IsSoundAsk ask → sound ask
  pub lists : (s : S) (ask : Ask) (reply : Reply) → allowed s ask reply → AnswersMethods reply

-- A call of the object, as an entry in the history of a graph.
abbrev pub called : Called Ask Reply → Entry
called e = entry e.ask (answer_of e.reply)

-- The session of a link, of which `left` is left to read at the end, and which has then `taken` more than at first. The history
-- that was seen has grown from `before` to `after`, and what it gained of this number are the entries of the session, in their
-- order. `rose` says that the link's count of faults rose.
pub record IsLinkSession (rose : Type 0) (end : SessionEnd) (number : List ℕ) (before after : List (Called Ask Reply)) (stream left taken now : Option (List ℕ)) : Type 0 where
  pub gained : List (Called Ask Reply)
  pub out : List ℕ
  pub grows : after ≡ before ++ gained
  pub session : Session own_response enters rose end stream left (map called (own number gained)) out
  pub written : Appends taken now out
