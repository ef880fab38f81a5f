-- What the bytes that have come say of a reply's head at their front.
use Rattle.std.specs.Prelude.{◌≡◌, ℕ, ◌≤◌, ◌&&◌, List, [], ◌∷◌, ◌++◌, length, drop, Option, Some, None, if◌then◌else◌, nat_le, ◌==◌, unwrap_or, IfSome, codes, IsUtf8}
use Rattle.httparse.specs.declared.spans.Span.{Span}
use Rattle.httparse.specs.declared.spans.ResponseSpans.{ResponseSpans}
use Rattle.httparse.specs.Grammar.{ResponseHead, ReadsResponse, HasNoResponse, status_code}
use Rattle.httparse.specs.Spans.{span_bytes, IsWithin}
use Rattle.http_ends.specs.declared.search.Judged.{Judged}
use Rattle.http_ends.specs.declared.search.Judged.TheVariants.{Whole, Refused, Open}
use Rattle.http_ends.specs.declared.reply_head.ReplyHead.{ReplyHead}
use Rattle.http_ends.specs.declared.response.ReplyEnd.{ReplyEnd}
use Rattle.http_ends.specs.declared.response.ReplyEnd.TheVariants.{BadReply, ReadFault, OutOfMemory}
use Rattle.http_ends.specs.Fields.{values_named, is_framed, length_said, lengths}
use Rattle.http_ends.specs.ReplyReading.{reply_fields, IsReplyWithinLimits, reply_length, HasNoReply}

-- How many bytes the body has, where the head is within the limits and says so.
abbrev pub reply_size : ResponseSpans → List (List ℕ × List ℕ) → Option ℕ
reply_size spans fields =
    if nat_le spans.len 16384 && (is_framed (lengths fields) && nat_le (unwrap_or (length_said (lengths fields)) 0) 134217728)
    then (if spans.code == 204 then Some 0 else length_said (lengths fields))
    else None

-- The first of the values stands there, if there is one.
abbrev pub FindsFirstValue : List ℕ → ℕ → Option Span → List (List ℕ) → Type 0
FindsFirstValue bytes len None values = values ≡ []
FindsFirstValue bytes len (Some s) values = IsWithin len s × ((others : List (List ℕ)) × (values ≡ span_bytes bytes s ∷ others))

-- What is kept as the value of `Allow` that stands there.
abbrev pub AllowIs : List ℕ → Option Span → Option (List ℕ) → Type 0
AllowIs bytes None allow = allow ≡ None
AllowIs bytes (Some s) None = ¬ (IsUtf8 (span_bytes bytes s))
AllowIs bytes (Some s) (Some allow) = IsUtf8 (span_bytes bytes s) × (allow ≡ span_bytes bytes s)

-- The bytes begin with the head h, and what is kept of it is true.
pub record IsReplyHeadAt (bytes : List ℕ) (head : ReplyHead) (h : ResponseHead) : Type 0 where
  pub reads : ReadsResponse bytes h (drop head.len bytes)
  pub within : IsReplyWithinLimits h
  pub fits : head.len ≤ length bytes
  pub size : reply_length h ≡ Some head.body
  pub small : head.body ≤ 134217728
  pub status : head.status ≡ status_code h
  pub allow : FindsFirstValue bytes (length bytes) head.allow (values_named (codes "allow") (reply_fields h))

-- What a judgement of the bytes says.
abbrev pub JudgesReply : List ℕ → Judged ReplyHead → Type 0
JudgesReply bytes (Whole head) = (h : ResponseHead) × IsReplyHeadAt bytes head h
JudgesReply bytes Refused = (more : List ℕ) → HasNoReply (bytes ++ more)
JudgesReply bytes Open = HasNoResponse bytes

-- Why no head of a reply is found in these bytes, where the link has these left.
abbrev pub ReplyEnds : List ℕ → Option (List ℕ) → ReplyEnd → Type 0
ReplyEnds bytes left BadReply = IfSome left (λ more. HasNoReply (bytes ++ more))
ReplyEnds bytes left ReadFault = Unit {0}
ReplyEnds bytes left OutOfMemory = Unit {0}
