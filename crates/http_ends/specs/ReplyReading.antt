-- The reply with which a stream of bytes that has ended begins, or that there is none.
use Rattle.std.specs.Prelude.{◌≡◌, ℕ, ◌≤◌, List, [], ◌∷◌, ◌++◌, length, map, Option, Some, None, Result, Ok, Err, if◌then◌else◌, ◌==◌, unwrap_or, codes, IsTrue, IsUtf8}
use Rattle.httparse.specs.Grammar.{ResponseHead, print_response, ReadsResponse, status_code}
use Rattle.httparse.specs.Spans.{name_and_value}
use Rattle.http_ends.specs.declared.response.Response.{Response}
use Rattle.http_ends.specs.declared.response.ReplyEnd.{ReplyEnd}
use Rattle.http_ends.specs.declared.response.ReplyEnd.TheVariants.{BadReply, ReadFault, OutOfMemory}
use Rattle.http_ends.specs.Fields.{values_named, is_framed, length_said, lengths}

-- The fields of a reply's head by name and value.
abbrev pub reply_fields : ResponseHead → List (List ℕ × List ℕ)
reply_fields h = map name_and_value h.fields

-- The head is within the limits of heads, and says no length over 134,217,728.
pub record IsReplyWithinLimits (h : ResponseHead) : Type 0 where
  pub size : length (print_response h) ≤ 16384
  pub few : length h.fields ≤ 64
  pub framed : IsTrue (is_framed (lengths (reply_fields h)))
  pub small : unwrap_or (length_said (lengths (reply_fields h))) 0 ≤ 134217728

-- How many bytes the body has: none for the status 204, else as many as the head says, if it does (RFC 9112, section 6.3).
abbrev pub reply_length : ResponseHead → Option ℕ
reply_length h = if status_code h == 204 then Some 0 else length_said (lengths (reply_fields h))

-- The value of the first field `Allow`, where it is text in UTF-8.
abbrev pub IsAllow : List (List ℕ) → Option (List ℕ) → Type 0
IsAllow [] allow = allow ≡ None
IsAllow (value ∷ values) None = ¬ (IsUtf8 value)
IsAllow (value ∷ values) (Some allow) = IsUtf8 value × (allow ≡ value)

-- The stream begins with this reply, which is a head and as many bytes as that says, and the rest follows.
pub record BeginsWithReply (stream : List ℕ) (r : Response) (rest : List ℕ) : Type 0 where
  pub head : ResponseHead
  pub reads : ReadsResponse stream head (r.body ++ rest)
  pub within : IsReplyWithinLimits head
  pub size : reply_length head ≡ Some (length r.body)
  pub status : r.status ≡ status_code head
  pub allow : IsAllow (values_named (codes "allow") (reply_fields head)) r.allow

-- The stream begins with no reply.
abbrev pub HasNoReply : List ℕ → Type 0
HasNoReply stream = (r : Response) (rest : List ℕ) → BeginsWithReply stream r rest → ⊥

-- What a client reads of the stream, and what is left of it then. After every answer but a reply it is as before.
abbrev pub AnswersReply : Result Response ReplyEnd → List ℕ → List ℕ → Type 0
AnswersReply (Ok r) before after = BeginsWithReply before r after
AnswersReply (Err BadReply) before after = HasNoReply before × (after ≡ before)
AnswersReply (Err ReadFault) before after = after ≡ before
AnswersReply (Err OutOfMemory) before after = after ≡ before
