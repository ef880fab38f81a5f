-- What the bytes that have come say of the head at their front.
use Rattle.std.specs.Prelude.{◌≡◌, ◌≢◌, ℕ, ◌-◌, ◌≤◌, Bool, true, false, ◌&&◌, ◌||◌, List, [], ◌∷◌, ◌++◌, length, drop, Option, Some, None, if◌then◌else◌, nat_le, ◌==◌, unwrap_or, IfSome}
use Rattle.std.specs.List.{list_any}
use Rattle.httparse.specs.declared.spans.RequestSpans.{RequestSpans}
use Rattle.httparse.specs.Grammar.{RequestHead, HasNoRequest}
use Rattle.httparse.specs.Spans.{span_bytes, IsWithin}
use Rattle.http_ends.specs.declared.search.Judged.{Judged}
use Rattle.http_ends.specs.declared.search.Judged.TheVariants.{Whole, Refused, Open}
use Rattle.http_ends.specs.declared.request_head.Head.{Head}
use Rattle.http_ends.specs.declared.buffer.Filled.{Filled}
use Rattle.http_ends.specs.declared.buffer.Filled.TheVariants.{More, Ended, Failed}
use Rattle.http_ends.specs.declared.request.HttpEnd.{HttpEnd}
use Rattle.http_ends.specs.declared.request.HttpEnd.TheVariants.{Closed, BadHead, BodyTooLong, TransferCoding, CutOff, ReadFault, OutOfMemory}
use Rattle.std.specs.Io.KnownBytes.{IsAtEnd}
use Rattle.http_ends.specs.Fields.{is_framed, length_said, lengths, codings, says_close}
use Rattle.http_ends.specs.Heads.{fields_of, BeginsWith, body_length, asks_to_close}
use Rattle.http_ends.specs.Messages.{HasNoHead}

-- Some value is there.
abbrev pub is_some_list : List (List ℕ) → Bool
is_some_list [] = false
is_some_list (value ∷ values) = true

-- What is kept of a head that was found at these places with these fields, where it is within the limits.
abbrev pub head_from : RequestSpans → List (List ℕ × List ℕ) → Option Head
head_from spans fields =
    if nat_le spans.len 16384 && is_framed (lengths fields)
    then Some (record {
      method = spans.method;
      target = spans.path;
      len = spans.len;
      body = unwrap_or (length_said (lengths fields)) 0;
      coded = is_some_list (codings fields);
      close = (spans.version == 0) || list_any says_close fields;
    })
    else None

-- The bytes begin with the head h, and what is kept of it is true.
pub record IsHeadAt (bytes : List ℕ) (head : Head) (h : RequestHead) : Type 0 where
  pub begins : BeginsWith bytes h (drop head.len bytes)
  pub fits : head.len ≤ length bytes
  pub method_within : IsWithin head.len head.method
  pub target_within : IsWithin head.len head.target
  pub method : span_bytes bytes head.method ≡ h.method
  pub target : span_bytes bytes head.target ≡ h.target
  pub body : head.body ≡ body_length h
  pub coded : head.coded ≡ is_some_list (codings (fields_of h))
  pub close : head.close ≡ asks_to_close h

-- Whatever follows, the bytes begin with no head within the limits.
abbrev pub NeverHasHead : List ℕ → Type 0
NeverHasHead bytes = (more : List ℕ) → HasNoHead (bytes ++ more)

-- Why no head is found in these bytes, where the link has these left.
abbrev pub HeadEnds : List ℕ → Option (List ℕ) → HttpEnd → Type 0
HeadEnds bytes left Closed = (bytes ≡ []) × IsAtEnd left
HeadEnds bytes left BadHead = (bytes ≢ []) × IfSome left (λ more. HasNoHead (bytes ++ more))
HeadEnds bytes left BodyTooLong = ⊥
HeadEnds bytes left TransferCoding = ⊥
HeadEnds bytes left CutOff = ⊥
HeadEnds bytes left ReadFault = HasNoRequest bytes
HeadEnds bytes left OutOfMemory = Unit {0}

-- How many more turns the search for a head may take.
abbrev pub turns_left : Filled → ℕ → ℕ
turns_left More come = 16385 - come
turns_left Ended come = 0
turns_left Failed come = 0

-- What a judgement of the bytes says.
abbrev pub Judges : List ℕ → Judged Head → Type 0
Judges bytes (Whole head) = (h : RequestHead) × IsHeadAt bytes head h
Judges bytes Refused = (bytes ≢ []) × NeverHasHead bytes
Judges bytes Open = HasNoRequest bytes
