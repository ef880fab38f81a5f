-- The request that comes next in a stream of bytes that has ended, or why there is none.
use Rattle.std.specs.Prelude.{◌≡◌, ◌≢◌, ℕ, ◌<◌, ◌≤◌, List, [], ◌++◌, length, Result, Ok, Err}
use Rattle.httparse.specs.Grammar.{RequestHead}
use Rattle.http_ends.specs.declared.request.Request.{Request}
use Rattle.http_ends.specs.declared.request.HttpEnd.{HttpEnd}
use Rattle.http_ends.specs.declared.request.HttpEnd.TheVariants.{Closed, BadHead, BodyTooLong, TransferCoding, CutOff, ReadFault, OutOfMemory}
use Rattle.http_ends.specs.Fields.{codings}
use Rattle.http_ends.specs.Heads.{fields_of, BeginsWith, body_length, path_of, query_of, asks_to_close}

-- The request has the parts of this head.
pub record HasParts (r : Request) (h : RequestHead) : Type 0 where
  pub method : r.method ≡ h.method
  pub path : r.path ≡ path_of h
  pub query : r.query ≡ query_of h
  pub close : r.close ≡ asks_to_close h

-- The stream begins with the message of this request, which is a head and as many bytes as it says, and the rest
-- follows.
pub record BeginsWithMessage (stream : List ℕ) (r : Request) (rest : List ℕ) : Type 0 where
  pub head : RequestHead
  pub begins : BeginsWith stream head (r.body ++ rest)
  pub uncoded : codings (fields_of head) ≡ []
  pub small : body_length head ≤ 4194304
  pub size : length r.body ≡ body_length head
  pub parts : HasParts r head

-- The stream begins with a head that has a transfer coding.
abbrev pub IsCoded : List ℕ → Type 0
IsCoded stream = (h : RequestHead) × (after : List ℕ) × BeginsWith stream h after × (codings (fields_of h) ≢ [])

-- The stream begins with a head that has no transfer coding and says a body that is too long.
abbrev pub IsTooLong : List ℕ → Type 0
IsTooLong stream = (h : RequestHead) × (after : List ℕ) × BeginsWith stream h after × (codings (fields_of h) ≡ []) × (4194304 < body_length h)

-- The stream ends inside the body.
abbrev pub IsCutOff : List ℕ → Type 0
IsCutOff stream = (h : RequestHead) × (after : List ℕ) × BeginsWith stream h after × (codings (fields_of h) ≡ []) × (body_length h ≤ 4194304) × (length after < body_length h)

-- No prefix of the stream is a head within the limits.
abbrev pub HasNoHead : List ℕ → Type 0
HasNoHead stream = (h : RequestHead) (after : List ℕ) → BeginsWith stream h after → ⊥

-- What comes next in the stream, and what is left of it then. A refusal takes nothing. That a read failed or no memory
-- was found is said of no stream.
abbrev pub IsNext : List ℕ → Result Request HttpEnd → List ℕ → Type 0
IsNext stream (Ok request) rest = BeginsWithMessage stream request rest
IsNext stream (Err Closed) rest = (stream ≡ []) × (rest ≡ stream)
IsNext stream (Err BadHead) rest = (stream ≢ []) × HasNoHead stream × (rest ≡ stream)
IsNext stream (Err TransferCoding) rest = IsCoded stream × (rest ≡ stream)
IsNext stream (Err BodyTooLong) rest = IsTooLong stream × (rest ≡ stream)
IsNext stream (Err CutOff) rest = IsCutOff stream × (rest ≡ stream)
IsNext stream (Err ReadFault) rest = ⊥
IsNext stream (Err OutOfMemory) rest = ⊥

-- These bytes alone hold a message, or a head that is refused for what it says of the body.
pub data Holds (bytes : List ℕ) : Type 0 where
  message : (r : Request) (rest : List ℕ) → BeginsWithMessage bytes r rest → Holds bytes
  coded : IsCoded bytes → Holds bytes
  too_long : IsTooLong bytes → Holds bytes
