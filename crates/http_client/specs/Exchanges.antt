-- An exchange over a link: a request is written, and the one reply to it is read (RFC 9112, sections 3 and 4).
--
-- A link is told or not, as its record says. What is said of its bytes is said where they are told.
use Rattle.std.specs.Prelude.{◌≡◌, ℕ, ◌<◌, ◌⊎◌, List, [], length, take, Option, Result, Ok, Err}
use Rattle.std.specs.Io.KnownBytes.{Appends}
use Rattle.dt_base.specs.Faults.{Rose}
use Rattle.connections.specs.Records.{LinkRecord}
use Rattle.http_ends.specs.declared.response.Response.{Response}
use Rattle.http_ends.specs.declared.response.ReplyEnd.{ReplyEnd}
use Rattle.http_ends.specs.declared.response.ReplyEnd.TheVariants as replies
use Rattle.http_ends.specs.ReplyReading.{AnswersReply}
use Rattle.http_ends.specs.Streams.{stream_of, OnStreams}
use Rattle.http_client.specs.declared.ends.AskEnd.{AskEnd}
use Rattle.http_client.specs.declared.ends.AskEnd.TheVariants.{DialFault, ReadFault, WriteFault, BadReply, OutOfMemory}

-- The record of a link at one moment.
abbrev pub link_record : {L : Type 0} → (L → Option (List ℕ)) → (L → Option (List ℕ)) → (L → ℕ) → L → LinkRecord
link_record left taken faults link = record { left = left link; taken = taken link; faults = faults link }

-- These bytes were written to the link, and no others.
abbrev pub Writes : LinkRecord → LinkRecord → List ℕ → Type 0
Writes before after bytes = Appends before.taken after.taken bytes

-- This is what a client reads of the bytes that the link had left. What follows it there are bytes that came along with it
-- and are used by nobody, and then the bytes that the link has left now.
abbrev pub Reads : LinkRecord → LinkRecord → Result Response ReplyEnd → Type 0
Reads before after answer =
    (along : List ℕ) × OnStreams before.left (stream_of along after.left) (AnswersReply answer)

-- What an exchange of this request over the link came to: the reply with which the bytes of the link begin, once the request
-- was written, or why there is none.
abbrev pub Exchanged : List ℕ → LinkRecord → LinkRecord → Result Response AskEnd → Type 0
Exchanged request before after (Ok response) =
    Writes before after request × Reads before after (Ok response)
Exchanged request before after (Err BadReply) =
    Writes before after request × Reads before after (Err replies.BadReply)
Exchanged request before after (Err ReadFault) =
    Writes before after request × Reads before after (Err replies.ReadFault) × Rose before.faults after.faults
Exchanged request before after (Err WriteFault) =
    (n : ℕ) × (n < length request) × Writes before after (take n request)
    × (after.left ≡ before.left) × Rose before.faults after.faults
Exchanged request before after (Err OutOfMemory) =
    (Writes before after [] ⊎ Writes before after request) × Reads before after (Err replies.OutOfMemory)
Exchanged request before after (Err DialFault) = ⊥
