-- Asks of which the input and the link are told, and in which no call failed; and how they end.
use Rattle.std.specs.Prelude.{◌≡◌, ◌⊎◌, ℕ, ◌≤◌, true, List, length, Some, String}
use Rattle.std.specs.Io.KnownBytes.{Appends, Keeps}
use Rattle.std.specs.declared.alloc.Global.{Global}
use Rattle.dt_base.specs.Faults.{Rose}
use Rattle.connections.specs.Records.{LinkRecord}
use Rattle.http_ends.specs.ReplyReading.{BeginsWithReply}
use Rattle.http_ends.specs.declared.response.Response.{Response}
use Rattle.dtdl_cmd.specs.Clients.{Client, IsAsk}
use Rattle.dtdl_cmd.specs.ClientRuns.{DialChange, IsReplyStatus, MAX_BODY}
use Rattle.dtdl_cmd.specs.Documents.{StreamChange}
use Rattle.dtdl_cmd.specs.FaultlessRuns.{TakesAll}
use Rattle.dtdl_cmd.specs.declared.status.Status.{Status}
use Rattle.dtdl_cmd.specs.declared.status.Status.TheVariants as status

-- The words are an ask; where the request has a body the input tells one within the limit; the dial tells that it gives a link,
-- whose bytes begin with this reply; and no read, no write and no dial failed.
pub record AskMeetsNoFault (words : List (String Global)) (input : StreamChange) (dial : DialChange) (output : StreamChange)
    (response : Response) : Type 0 where
  pub client : Client
  pub are : IsAsk words client
  pub body : client.has_body ≡ true → (all : List ℕ) × (input.before ≡ Some all) × (length all ≤ MAX_BODY)
  pub link : LinkRecord
  pub ahead : dial.before.ahead ≡ Some (Some link)
  pub bytes : List ℕ
  pub left : link.left ≡ Some bytes
  pub rest : List ℕ
  pub begins : BeginsWithReply bytes response rest
  pub read : Rose input.faults_before input.faults_after → ⊥
  pub dialled : Rose dial.faults_before dial.faults_after → ⊥
  pub linked : Rose dial.before.lost dial.after.lost → ⊥
  pub taken : TakesAll output

-- The run ended with the status that the reply's number says, and its body was written whole; or no memory was found, and
-- nothing was written.
abbrev pub EndsWithReply : Response → StreamChange → Status → Type 0
EndsWithReply response output s = (IsReplyStatus response.status s × Appends output.before output.after response.body)
    ⊎ ((s ≡ status.OutOfMemory) × Keeps output.before output.after)
