-- Sessions: the requests of a stream of bytes, the entries that they leave, and the bytes that are written.
--
-- A stream is told or not, as the link that it comes from tells its bytes. What is said of its bytes is said where they
-- are told.
use Rattle.std.specs.Prelude.{◌≡◌, ℕ, ◌+◌, ◌<◌, ◌⊎◌, Bool, true, false, ◌||◌, List, [], ◌∷◌, ◌++◌, length, take, Option, Some, Err, IfSome, ◌==◌, option_to_list}
use Rattle.std.specs.List.{AllByRecursion}
use Rattle.std.specs.Io.KnownBytes.{Consumes}
use Rattle.http_ends.specs.declared.request.Request.{Request}
use Rattle.http_ends.specs.declared.request.HttpEnd.{HttpEnd}
use Rattle.http_ends.specs.declared.request.HttpEnd.TheVariants as causes
use Rattle.http_ends.specs.declared.response.Response.{Response}
use Rattle.http_ends.specs.Messages.{BeginsWithMessage, IsNext, Holds}
use Rattle.http_ends.specs.Streams.{OnStreams}
use Rattle.http_session.specs.Answers.{IsAnswered, answer_text}
use Rattle.http_session.specs.Refusals.{refusal_of, refusal_text, unavailable}
use Rattle.http_session.specs.declared.ends.SessionEnd.{SessionEnd}
use Rattle.http_session.specs.declared.ends.SessionEnd.TheVariants.{Closed, Refused, Full, ReadFault, WriteFault, OutOfMemory}

-- A request, the entry that it left, if it left one, and its response.
pub record Exchange (E : Type 0) : Type 0 where
  pub request : Request
  pub entry : Option E
  pub response : Response

-- The entries of exchanges, in their order.
abbrev pub entries_of : {E : Type 0} → List (Exchange E) → List E
entries_of [] = []
entries_of (x ∷ xs) = option_to_list x.entry ++ entries_of xs

-- The texts of their replies, none of them closing.
abbrev pub texts_of : {E : Type 0} → List (Exchange E) → List ℕ
texts_of [] = []
texts_of (x ∷ xs) = answer_text x.request x.response false ++ texts_of xs

-- The stream begins with the message of the request, and the other stream follows.
abbrev pub IsMessage : Option (List ℕ) → Request → Option (List ℕ) → Type 0
IsMessage stream request after = OnStreams stream after (λ bytes rest. BeginsWithMessage bytes request rest)

-- The stream begins with the messages of the exchanges' requests, one after the other, and the other stream follows.
abbrev pub AreRead : {E : Type 0} → Option (List ℕ) → List (Exchange E) → Option (List ℕ) → Type 0
AreRead stream [] after = after ≡ stream
AreRead stream (x ∷ xs) after = (mid : Option (List ℕ)) × IsMessage stream x.request mid × AreRead mid xs after

-- A proper prefix of a text was written.
abbrev pub IsProperPrefix : List ℕ → List ℕ → Type 0
IsProperPrefix text out = (n : ℕ) × (n < length text) × (out ≡ take n text)

-- A text was written whole, or a proper prefix of it where the sink's count of faults rose.
abbrev pub IsWritten : Type 0 → List ℕ → List ℕ → Type 0
IsWritten rose text out = (out ≡ text) ⊎ (IsProperPrefix text out × rose)

-- Why no request was read of the stream, where its source has these bytes left. A read failed only where what was read of
-- the stream holds no request. Want of memory has no cause in the stream.
abbrev pub IsCause : Option (List ℕ) → Option (List ℕ) → HttpEnd → Type 0
IsCause stream left causes.ReadFault = OnStreams stream left (λ bytes unread. (read : List ℕ) × (bytes ≡ read ++ unread) × (Holds read → ⊥))
IsCause stream left causes.OutOfMemory = Unit {0}
IsCause stream left cause = IfSome stream (λ bytes. IsNext bytes (Err cause) bytes)

-- The session ends in place of a request, for this cause: what it still wrote. `rose` says that the sink's count of faults
-- rose.
abbrev pub EndsFor : Type 0 → SessionEnd → HttpEnd → List ℕ → Type 0
EndsFor rose Closed cause out = (cause ≡ causes.Closed) × (out ≡ [])
EndsFor rose Refused cause out = (response : Response) × (refusal_of cause ≡ Some response) × (out ≡ refusal_text response)
EndsFor rose Full cause out = ⊥
EndsFor rose ReadFault cause out = (cause ≡ causes.ReadFault) × (out ≡ [])
EndsFor rose WriteFault cause out = (response : Response) × (refusal_of cause ≡ Some response) × IsProperPrefix (refusal_text response) out
EndsFor rose OutOfMemory cause out = IsWritten rose unavailable out

module _ {E : Type 0} (own : Request → Response → Type 0) (enters : Request → E → Response → Type 0) where
  -- The request was answered: its entry, if it left one, and the text of its reply.
  abbrev pub Replies : Request → Bool → List E → List ℕ → Type 0
  Replies request close es out =
      (entry : Option E) × (response : Response) × IsAnswered own enters request entry response × (es ≡ option_to_list entry) × (out ≡ answer_text request response close)

  -- The session ends with this request, which was read whole: the entries that it left, and what was written. `last` says
  -- that its reply is the 1,000,000th. Where no memory was found, either no entry is in hand and the fixed text is
  -- written, or an entry is in hand and nothing is written.
  abbrev pub EndsWith : Type 0 → Bool → SessionEnd → Request → List E → List ℕ → Type 0
  EndsWith rose last Closed request es out = Replies request true es out × (request.close ≡ true)
  EndsWith rose last Refused request es out = ⊥
  EndsWith rose last Full request es out = Replies request true es out × (request.close ≡ false) × (last ≡ true)
  EndsWith rose last ReadFault request es out = ⊥
  EndsWith rose last WriteFault request es out = (text : List ℕ) × Replies request (request.close || last) es text × IsProperPrefix text out
  EndsWith rose last OutOfMemory request es out =
      ((es ≡ []) × IsWritten rose unavailable out)
      ⊎ ((entry : E) × (response : Response) × enters request entry response × (es ≡ entry ∷ []) × (out ≡ []))

  -- The end of a session on what is left of its stream: with a request that was read whole, or in place of one.
  abbrev pub Ends : Type 0 → Bool → SessionEnd → Option (List ℕ) → Option (List ℕ) → List E → List ℕ → Type 0
  Ends rose last end stream left es out =
      ((request : Request) × (after : Option (List ℕ)) × IsMessage stream request after × EndsWith rose last end request es out)
      ⊎ ((cause : HttpEnd) × IsCause stream left cause × (es ≡ []) × EndsFor rose end cause out)

  -- The request was answered, and its reply is not a closing one for its sake.
  abbrev pub IsOpen : Exchange E → Type 0
  IsOpen x = IsAnswered own enters x.request x.entry x.response × (x.request.close ≡ false)

  -- A session over a stream, of which the source has `left` at the end: what it read is `took`. Each reply before the
  -- last is whole and not closing.
  pub record Session (rose : Type 0) (end : SessionEnd) (stream left : Option (List ℕ)) (es : List E) (out : List ℕ) : Type 0 where
    pub took : List ℕ
    pub exchanges : List (Exchange E)
    pub rest : Option (List ℕ)
    pub last_es : List E
    pub last_out : List ℕ
    pub consumed : Consumes stream left took
    pub read : AreRead stream exchanges rest
    pub open_all : AllByRecursion IsOpen exchanges
    pub few : length exchanges < 1000000
    pub last : Ends rose (length exchanges + 1 == 1000000) end rest left last_es last_out
    pub all_es : es ≡ entries_of exchanges ++ last_es
    pub all_out : out ≡ texts_of exchanges ++ last_out
