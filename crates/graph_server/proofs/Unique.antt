-- There is one replay of a stream.
use Rattle.std.proofs.Common.{◌≡◌, ℕ, List, [], Option, refl, sym, ap, ◌∙◌}
use Rattle.json_tree.specs.Printing.{printed}
use Rattle.http_ends.specs.declared.request.Request.{Request}
use Rattle.http_ends.specs.declared.response.Response.{Response}
use Rattle.http_session.specs.Uniqueness.{AreFunctions, OneSession}
use Rattle.http_session.proofs.Stretches.{session_weaker}
use Rattle.http_session.specs.declared.ends.SessionEnd.{SessionEnd}
use Rattle.graph_asks.specs.Answers.{Answer, body, created, canon, done, refused, answer_of}
use Rattle.graph_asks.specs.Asks.{AreOneAsk}
use Rattle.graph_asks.specs.declared.ask.Ask.{Ask}
use Rattle.graph_asks.specs.declared.refusal.Refusal.{Refusal}
use Rattle.graph_asks.specs.declared.reply.Reply.{Reply}
use Rattle.graph_asks.specs.declared.reply.Reply.TheVariants as replies
use Rattle.graph_steps.specs.Soundness.{IsSoundAsk}
use Rattle.graph_steps.specs.States.{State, empty}
use Rattle.graph_steps.specs.Steps.{Answers, followed}
use Rattle.graph_routes.specs.Prepared.{ArePreparedAlike, IsPrepared}
use Rattle.graph_routes.specs.Responses.{plain, response_for, response_to}
use Rattle.graph_routes.specs.declared.prepared.Prepared.{Prepared}
use Rattle.graph_routes.specs.declared.prepared.Prepared.TheVariants as prepared
use Rattle.graph_server.specs.Entries.{Entry, AreOneEntry, own_response, enters, allows, follows_entry}
use Rattle.graph_server.specs.Replays.{IsReplay, OneReplay}

abbrev ask_made : Ask → Prepared
ask_made a = prepared.Ask a

abbrev own_made : Refusal → Prepared
own_made r = prepared.Own r

own_same : (r q : Refusal) → own_made r ≡ own_made q → r ≡ q
own_same r q e = cc

ask_not_own : (a : Ask) (r : Refusal) → ask_made a ≡ own_made r → ⊥
ask_not_own a r e = cc

-- what is known of requests and of graphs
pub record Known : Type 0 where
  pub requests : (request : Request) (a b : Prepared) → IsPrepared request a → IsPrepared request b → ArePreparedAlike a b
  pub answered : (s : State) (ask other : Ask) (a b : Answer) → IsSoundAsk ask → AreOneAsk ask other → Answers s ask a → Answers s other b → a ≡ b
  pub follows_one : (s : State) (ask other : Ask) (a : Answer) → AreOneAsk ask other → followed s ask a ≡ followed s other a
  pub sound : (request : Request) (ask : Ask) → IsPrepared request (prepared.Ask ask) → IsSoundAsk ask

-- the response depends on the answer alone
response_in : Answer → Response
response_in (body v) = plain 200 (printed v)
response_in (created v) = plain 201 (printed v)
response_in (canon bytes) = plain 200 bytes
response_in done = plain 204 []
response_in (refused r) = response_to r

of_answer : (reply : Reply) → response_for reply ≡ response_in (answer_of reply)
unfolding response_in response_for
of_answer (replies.Body tree) = refl
of_answer (replies.Created tree) = refl
of_answer (replies.Canon bytes) = refl
of_answer replies.Done = refl
of_answer (replies.Refused r) = refl

same_response : (one other : Reply) → answer_of one ≡ answer_of other → response_for one ≡ response_for other
same_response one other e = of_answer one ∙ ap response_in e ∙ sym (of_answer other)

one_entry : Known → (s : State) (request : Request) (e f : Entry) (a b : Response) → enters request e a → enters request f b → allows s e → allows s f → AreOneEntry e f × (a ≡ b)
one_entry known s request e f a b (made, (reply, gives, is)) (also, (other, gives_too, is_too)) legal legal_too =
    let one : AreOneAsk e.ask f.ask = known.requests request (prepared.Ask e.ask) (prepared.Ask f.ask) made also in
    let answers = known.answered s e.ask f.ask e.answer f.answer (known.sound request e.ask made) one legal.1 legal_too.1 in (
      (one, answers),
      is ∙ same_response reply other (gives ∙ answers ∙ sym gives_too) ∙ sym is_too,
    )

one_state : Known → (s : State) (e f : Entry) → AreOneEntry e f → follows_entry s e ≡ follows_entry s f
one_state known s e f same = known.follows_one s e.ask f.ask e.answer same.0 ∙ ap (followed s f.ask) same.1

pub functions : Known → AreFunctions own_response enters allows follows_entry AreOneEntry
functions known = record {
  apart = λ request e a b o n. ask_not_own e.ask o.0 (known.requests request (prepared.Ask e.ask) (prepared.Own o.0) n.0 o.1);
  one_own = λ request a b o n. o.2 ∙ ap response_to (own_same o.0 n.0 (known.requests request (prepared.Own o.0) (prepared.Own n.0) o.1 n.1)) ∙ sym n.2;
  one_entry = one_entry known;
  one_state = one_state known;
}

pub one_replay : AreFunctions own_response enters allows follows_entry AreOneEntry → OneSession own_response enters allows follows_entry AreOneEntry → OneReplay
one_replay functions session stream left unread end other out text one two decided also =
    session functions stream left unread empty one.state two.state end other one.entries two.entries out text decided also one.session two.session one.legal two.legal

-- a replay of which it is told that the sink's count rose is one of which it is not told
pub replay_weaker : (r s : Type 0) (end : SessionEnd) (stream left : Option (List ℕ)) (out : List ℕ) → (r → s) → IsReplay r end stream left out → IsReplay s end stream left out
replay_weaker r s end stream left out f h = record {
  entries = h.entries;
  state = h.state;
  legal = h.legal;
  typed = h.typed;
  session = session_weaker {D = State} (λ a es b. Unit {0}) own_response enters r s end stream left h.entries out f h.session;
}
