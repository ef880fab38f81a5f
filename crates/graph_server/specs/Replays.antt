-- Replays: sessions with a graph of their own, which is empty at first.
use Rattle.std.specs.Prelude.{◌≡◌, ℕ, List, Option, Some}
use Rattle.std.specs.List.{AllZip}
use Rattle.http_session.specs.Sessions.{Session}
use Rattle.http_session.specs.Uniqueness.{IsDecided}
use Rattle.http_session.specs.declared.ends.SessionEnd.{SessionEnd}
use Rattle.graph_steps.specs.States.{State, empty}
use Rattle.graph_server.specs.Entries.{Entry, AreOneEntry, own_response, enters, IsLegalHistory}
use Rattle.graph_server.specs.Histories.{IsTypedHistory}

-- The session of a stream, of which the source has `left` at the end, over a legal history from the empty graph, whose states
-- are all well typed, and the bytes that were written. `rose` says that the sink's count of faults rose.
pub record IsReplay (rose : Type 0) (end : SessionEnd) (stream left : Option (List ℕ)) (out : List ℕ) : Type 0 where
  pub entries : List Entry
  pub state : State
  pub legal : IsLegalHistory empty entries state
  pub typed : IsTypedHistory empty entries
  pub session : Session own_response enters rose end stream left entries out

-- There is one history of a stream that its bytes end, but for where its asks lie in memory, and one session over it.
abbrev pub OneReplay : Type 0
OneReplay = (stream : List ℕ) (left unread : Option (List ℕ)) (end other : SessionEnd) (out text : List ℕ)
    (one : IsReplay (Unit {0}) end (Some stream) left out) (two : IsReplay (Unit {0}) other (Some stream) unread text)
    → IsDecided end → IsDecided other
    → (end ≡ other) × AllZip AreOneEntry one.entries two.entries × (out ≡ text)
