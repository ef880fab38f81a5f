-- How a run ends.
use Rattle.std.specs.Prelude.{◌≡◌, ℕ, ◌<◌, ◌⊎◌, List, [], ◌∷◌, length, take, Option, String}
use Rattle.std.specs.declared.alloc.Global.{Global}
use Rattle.std.specs.Io.KnownBytes.{Appends, Keeps}
use Rattle.dt_base.specs.Faults.{Rose}
use Rattle.http_session.specs.declared.ends.SessionEnd.{SessionEnd}
use Rattle.http_session.specs.declared.ends.SessionEnd.TheVariants as ends
use Rattle.graph_server.specs.Replays.{IsReplay}
use Rattle.dtdl_cmd.specs.making.Made.{IsMade}
use Rattle.dtdl_cmd.specs.Words.{AreCommand, AreMake, AreReplay, IsCommand}
use Rattle.dtdl_cmd.specs.Documents.{AreFound, ShelfChange, StreamChange}
use Rattle.dtdl_cmd.specs.Answers.{AnswersWords}
use Rattle.dtdl_cmd.specs.declared.command.Command.{Command}
use Rattle.dtdl_cmd.specs.declared.status.Status.{Status}
use Rattle.dtdl_cmd.specs.declared.status.Status.TheVariants as status

-- The answer to the words and to what was found of the documents, which matters only where the words are a command.
pub record AnswersInput (words : List (String Global)) (input : StreamChange) (shelf : ShelfChange) (s : Status) (line : List ℕ) : Type 0 where
  pub found : List (Option (List ℕ))
  pub held : (command : Command) (names : List (List ℕ)) → IsCommand words command names → AreFound input shelf names found
  pub answers : AnswersWords words found s line

-- A proper prefix of the answer was written.
pub record BreaksOff (words : List (String Global)) (input : StreamChange) (shelf : ShelfChange) (output : StreamChange) : Type 0 where
  pub answered : Status
  pub line : List ℕ
  pub written : ℕ
  pub proper : written < length line
  pub answers : AnswersInput words input shelf answered line
  pub appended : Appends output.before output.after (take written line)

-- A read of the source failed, or a fetch from the shelf, whichever has the documents.
abbrev pub HasReadFault : StreamChange → ShelfChange → List (List ℕ) → Type 0
HasReadFault input shelf [] = Rose input.faults_before input.faults_after
HasReadFault input shelf (name ∷ names) = Rose shelf.faults_before shelf.faults_after

-- Of words that are a command over documents, or no command. The answer was written whole; or a write failed after a proper
-- prefix of it; or a read failed or no memory was found, and nothing was written.
abbrev pub EndsAnswer : List (String Global) → StreamChange → ShelfChange → StreamChange → Status → Type 0
EndsAnswer words input shelf output s = ((line : List ℕ) × AnswersInput words input shelf s line × Appends output.before output.after line)
    ⊎ ((s ≡ status.WriteFault) × Rose output.faults_before output.faults_after × BreaksOff words input shelf output)
    ⊎ ((s ≡ status.ReadFault) × ((command : Command) × (names : List (List ℕ)) × IsCommand words command names × HasReadFault input shelf names)
    × Keeps output.before output.after)
    ⊎ ((s ≡ status.OutOfMemory) × AreCommand words × Keeps output.before output.after)

abbrev pub exit_status : SessionEnd → Status
exit_status ends.Closed = status.Ok
exit_status ends.Refused = status.Refused
exit_status ends.Full = status.SessionFull
exit_status ends.ReadFault = status.ReadFault
exit_status ends.WriteFault = status.WriteFault
exit_status ends.OutOfMemory = status.OutOfMemory

-- Of a replay: the input's bytes were answered as a session over a graph that is empty at first, and the output took what
-- was written. A read or a write failed only where the count rose.
pub record EndsReplay (input output : StreamChange) (s : Status) : Type 0 where
  pub end : SessionEnd
  pub out : List ℕ
  pub status : s ≡ exit_status end
  pub replay : IsReplay (Rose output.faults_before output.faults_after) end input.before input.after out
  pub appended : Appends output.before output.after out
  pub read_cause : end ≡ ends.ReadFault → Rose input.faults_before input.faults_after
  pub write_cause : end ≡ ends.WriteFault → Rose output.faults_before output.faults_after

-- Of a graph of so many rooms that is made: the lines of its counts were written whole; or a write failed after a proper prefix
-- of them; or no memory was found, and nothing was written.
abbrev pub EndsMake : ℕ → StreamChange → Status → Type 0
EndsMake n output s = ((s ≡ status.Ok) × ((text : List ℕ) × IsMade n text × Appends output.before output.after text))
    ⊎ ((s ≡ status.WriteFault) × Rose output.faults_before output.faults_after
    × ((text : List ℕ) × IsMade n text × ((written : ℕ) × (written < length text) × Appends output.before output.after (take written text))))
    ⊎ ((s ≡ status.OutOfMemory) × Keeps output.before output.after)

abbrev pub RunEnds : List (String Global) → StreamChange → ShelfChange → StreamChange → Status → Type 0
RunEnds words input shelf output s = EndsAnswer words input shelf output s
    ⊎ (AreReplay words × EndsReplay input output s)
    ⊎ ((n : ℕ) × AreMake words n × EndsMake n output s)

-- The words of a replay and the input's bytes decide such a status.
abbrev pub IsDecidedStatus : Status → Type 0
IsDecidedStatus status.Ok = Unit {0}
IsDecidedStatus status.Refused = Unit {0}
IsDecidedStatus status.SessionFull = Unit {0}
IsDecidedStatus other = ⊥
