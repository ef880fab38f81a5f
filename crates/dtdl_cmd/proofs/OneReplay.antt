-- The words of a replay and the input's bytes decide its status and what is written.
use Rattle.std.proofs.Common.{◌≡◌, ℕ, List, ◌++◌, Option, None, Some, String, inl, inr, sym, ap, subst, ◌∙◌}
use Rattle.std.specs.declared.alloc.Global.{Global}
use Rattle.std.specs.Io.KnownBytes.{Appends}
use Rattle.dt_base.specs.Faults.{Rose}
use Rattle.http_session.specs.Uniqueness.{IsDecided as EndIsDecided}
use Rattle.http_session.specs.declared.ends.SessionEnd.{SessionEnd}
use Rattle.http_session.specs.declared.ends.SessionEnd.TheVariants as ends
use Rattle.graph_server.specs.Replays.{IsReplay, OneReplay}
use Rattle.graph_server.proofs.Unique.{replay_weaker}
use Rattle.dtdl_cmd.specs.Words.{AreReplay}
use Rattle.dtdl_cmd.specs.Documents.{ShelfChange, StreamChange}
use Rattle.dtdl_cmd.specs.Runs.{RunEnds, EndsReplay, IsDecidedStatus, exit_status}
use Rattle.dtdl_cmd.specs.declared.status.Status.{Status}
use Rattle.dtdl_cmd.proofs.OtherWords.{none_ended, replays_no_documents, replays_or_makes}

pub replayed : (words : List (String Global)) (input : StreamChange) (shelf : ShelfChange) (output : StreamChange) (s : Status) → AreReplay words → RunEnds words input shelf output s → EndsReplay input output s
replayed words input shelf output s replays (inl h) = absurd (none_ended words (λ none. none.1 replays) (replays_no_documents words replays) input shelf output s h)
replayed words input shelf output s replays (inr (inl h)) = h.1
replayed words input shelf output s replays (inr (inr (n, are, h))) = absurd (replays_or_makes words n replays are)

decided : (end : SessionEnd) → IsDecidedStatus (exit_status end) → EndIsDecided end
decided ends.Closed h = tt
decided ends.Refused h = tt
decided ends.Full h = tt
decided ends.ReadFault h = absurd h
decided ends.WriteFault h = absurd h
decided ends.OutOfMemory h = absurd h

-- a replay of known bytes, of which it is not told whether the sink's count rose
pub known : (input output : StreamChange) (s : Status) (all : List ℕ) (h : EndsReplay input output s) → input.before ≡ Some all → IsReplay (Unit {0}) h.end (Some all) input.after h.out
known input output s all h is =
    replay_weaker (Rose output.faults_before output.faults_after) (Unit {0}) h.end (Some all) input.after h.out (λ rose. tt)
    (subst (λ (stream : Option (List ℕ)). IsReplay (Rose output.faults_before output.faults_after) h.end stream input.after h.out) is h.replay)

pub same_after : (before : List ℕ) (one other after last : Option (List ℕ)) (out text : List ℕ) → one ≡ Some before → other ≡ Some before → out ≡ text → Appends one after out → Appends other last text → after ≡ last
same_after before one other after last out text is has same h k =
    let first = subst (λ (b : Option (List ℕ)). Appends b after out) is h in
    let second = subst (λ (b : Option (List ℕ)). Appends b last text) has k in
    ended before after last out text same first second
  where
    ended : (before : List ℕ) (after last : Option (List ℕ)) (out text : List ℕ) → out ≡ text → Appends (Some before) after out → Appends (Some before) last text → after ≡ last
    ended before None last out text same h k = absurd h
    ended before (Some a) None out text same h k = absurd k
    ended before (Some a) (Some b) out text same h k = ap Some (h ∙ ap (λ (bytes : List ℕ). before ++ bytes) same ∙ sym k)

pub one_replay : OneReplay → (words : List (String Global)) (input other : StreamChange) (shelf files : ShelfChange) (output sink : StreamChange) (all before : List ℕ) (s t : Status)
    → AreReplay words → input.before ≡ Some all → other.before ≡ Some all → output.before ≡ Some before → sink.before ≡ Some before
    → RunEnds words input shelf output s → RunEnds words other files sink t → IsDecidedStatus s → IsDecidedStatus t → (s ≡ t) × (output.after ≡ sink.after)
one_replay law words input other shelf files output sink all before s t replays is has from too one two done also =
    let h = replayed words input shelf output s replays one in
    let k = replayed words other files sink t replays two in
    let same = law all input.after other.after h.end k.end h.out k.out (known input output s all h is) (known other sink t all k has)
    (decided h.end (subst IsDecidedStatus h.status done)) (decided k.end (subst IsDecidedStatus k.status also)) in (
      h.status ∙ ap exit_status same.0 ∙ sym k.status,
      same_after before output.before sink.before output.after sink.after h.out k.out from too same.2 h.appended k.appended,
    )
