-- How an ask ends.
use Rattle.std.specs.Prelude.{◌≡◌, ◌⊎◌, ℕ, ◌<◌, ◌≤◌, Bool, true, false, List, length, take, Option, Some, None, IfSome, Result, Ok, Err, String}
use Rattle.std.specs.declared.alloc.Global.{Global}
use Rattle.std.specs.Io.KnownBytes.{Appends, Consumes, IsAtEnd, Keeps}
use Rattle.dt_base.specs.Faults.{Rose}
use Rattle.http_ends.specs.declared.response.Response.{Response}
use Rattle.http_ends.specs.Requests.{request_text}
use Rattle.http_client.specs.Ends.{DialRecord, Ends}
use Rattle.http_client.specs.declared.ends.AskEnd.{AskEnd}
use Rattle.http_client.specs.declared.ends.AskEnd.TheVariants as causes
use Rattle.dtdl_cmd.specs.Clients.{AreNoAsk, Client, IsAsk}
use Rattle.dtdl_cmd.specs.Documents.{StreamChange}
use Rattle.dtdl_cmd.specs.Lines.{too_long_body_line, usage_line}
use Rattle.dtdl_cmd.specs.declared.status.Status.{Status}
use Rattle.dtdl_cmd.specs.declared.status.Status.TheVariants as status

-- The most bytes that the body of a request may have.
abbrev pub MAX_BODY : ℕ
MAX_BODY = 4194304

-- What is known of a source or a sink before and after a run, by what it tells and its count of faults.
abbrev pub stream_change : {S : Type 0} → (S → Option (List ℕ)) → (S → ℕ) → S → S → StreamChange
stream_change told faults old new = record { before = told old; after = told new; faults_before = faults old; faults_after = faults new }

-- What is known of a dial before and after a run: its record, and its count of dials that failed.
pub record DialChange : Type 0 where
  pub before : DialRecord
  pub after : DialRecord
  pub faults_before : ℕ
  pub faults_after : ℕ

abbrev pub dial_change : {D : Type 0} → (D → DialRecord) → (D → ℕ) → D → D → DialChange
dial_change told faults old new = record { before = told old; after = told new; faults_before = faults old; faults_after = faults new }

-- Nothing was dialled.
abbrev pub IsUndialled : DialChange → Type 0
IsUndialled dial = (dial.after ≡ dial.before) × (dial.faults_after ≡ dial.faults_before)

-- The text was written whole, with its status; or a write failed after a proper prefix of it.
abbrev pub Says : StreamChange → Status → List ℕ → Status → Type 0
Says output told text s = ((s ≡ told) × Appends output.before output.after text)
    ⊎ ((s ≡ status.WriteFault) × Rose output.faults_before output.faults_after
    × ((written : ℕ) × (written < length text) × Appends output.before output.after (take written text)))

-- The body of the request: none, or the input, which was read to its end and is within the limit.
abbrev pub IsBody : Bool → StreamChange → Option (List ℕ) → Type 0
IsBody false input body = body ≡ None
IsBody true input body = (bytes : List ℕ) × (body ≡ Some bytes) × (length bytes ≤ MAX_BODY)
    × Consumes input.before input.after bytes × IsAtEnd input.after

-- What the number of a reply says: 200 to 299 are a success (RFC 9110, section 15.3).
abbrev pub IsReplyStatus : ℕ → Status → Type 0
IsReplyStatus number status.Ok = (200 ≤ number) × (number ≤ 299)
IsReplyStatus number status.Refused = (number < 200) ⊎ (299 < number)
IsReplyStatus number other = ⊥

-- What is said of an ask that ended so: the body of the reply, or nothing.
abbrev pub Tells : Result Response AskEnd → StreamChange → Status → Type 0
Tells (Ok response) output s = (told : Status) × IsReplyStatus response.status told × Says output told response.body s
Tells (Err causes.DialFault) output s = (s ≡ status.DialFault) × Keeps output.before output.after
Tells (Err causes.ReadFault) output s = (s ≡ status.ReadFault) × Keeps output.before output.after
Tells (Err causes.WriteFault) output s = (s ≡ status.WriteFault) × Keeps output.before output.after
Tells (Err causes.BadReply) output s = (s ≡ status.BadReply) × Keeps output.before output.after
Tells (Err causes.OutOfMemory) output s = (s ≡ status.OutOfMemory) × Keeps output.before output.after

-- A request was asked over a dial, and its end was told. The dial failed only where its count rose, and the link only where the
-- dial's count of lost links rose.
pub record Asks (request : List ℕ) (dial : DialChange) (output : StreamChange) (s : Status) : Type 0 where
  pub answer : Result Response AskEnd
  pub ends : Ends request dial.before dial.after answer
  pub tells : Tells answer output s
  pub dial_cause : answer ≡ Err causes.DialFault → Rose dial.faults_before dial.faults_after
  pub read_cause : answer ≡ Err causes.ReadFault → Rose dial.before.lost dial.after.lost
  pub write_cause : answer ≡ Err causes.WriteFault → Rose dial.before.lost dial.after.lost

abbrev pub request_of : Client → Option (List ℕ) → List ℕ
request_of client body = request_text client.host client.port client.method client.target body

-- The body was not read: it is too long, which is said, or a read failed, or there was no memory for it. Nothing was dialled.
abbrev pub EndsUnread : StreamChange → StreamChange → Status → Type 0
EndsUnread input output s = (IfSome input.before (λ bytes. MAX_BODY < length bytes) × Says output status.TooLong too_long_body_line s)
    ⊎ ((s ≡ status.ReadFault) × Rose input.faults_before input.faults_after × Keeps output.before output.after)
    ⊎ ((s ≡ status.OutOfMemory) × Keeps output.before output.after)

-- Of words that are an ask: the body, where there is one, is read before the request is asked.
abbrev pub EndsAsk : Client → StreamChange → DialChange → StreamChange → Status → Type 0
EndsAsk client input dial output s = ((client.has_body ≡ true) × EndsUnread input output s × IsUndialled dial)
    ⊎ ((body : Option (List ℕ)) × IsBody client.has_body input body × Asks (request_of client body) dial output s)

abbrev pub AskRunEnds : List (String Global) → StreamChange → DialChange → StreamChange → Status → Type 0
AskRunEnds words input dial output s = (AreNoAsk words × Says output status.Usage usage_line s)
    ⊎ ((client : Client) × IsAsk words client × EndsAsk client input dial output s)
