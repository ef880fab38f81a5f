-- What a session keeps from one turn to the next.
use Rattle.std.specs.Prelude.{◌≡◌, ℕ, Bool, false, List, [], length, Option, Some, None, Result, Ok, Err, option_to_list}
use Rattle.std.specs.List.{AllByRecursion}
use Rattle.std.specs.Io.KnownBytes.{Appends, Consumes}
use Rattle.http_ends.specs.declared.request.Request.{Request}
use Rattle.http_ends.specs.declared.request.HttpEnd.{HttpEnd}
use Rattle.http_ends.specs.declared.response.Response.{Response}
use Rattle.http_session.specs.declared.ends.SessionEnd.{SessionEnd}
use Rattle.http_session.specs.Answers.{answer_text}
use Rattle.http_session.specs.declared.ends.SessionEnd.TheVariants as ends
use Rattle.http_session.specs.Refusals.{refusal_text, unavailable}
use Rattle.http_session.specs.Sessions.{IsProperPrefix, IsWritten, Exchange, entries_of, texts_of, IsMessage, AreRead, IsOpen, Replies, EndsWith, EndsFor, Ends, Session}

-- What is told at a moment: the bytes that are not used or not read yet, those that were written, and the service.
pub record World (D : Type 0) : Type 0 where
  pub bytes : Option (List ℕ)
  pub taken : Option (List ℕ)
  pub service : D

abbrev pub world : {D : Type 0} → Option (List ℕ) → Option (List ℕ) → D → World D
world bytes taken service = record { bytes = bytes; taken = taken; service = service }

-- What became of a closing refusal.
abbrev pub RefusedWith : Type 0 → Response → List ℕ → SessionEnd → Type 0
RefusedWith rose response out ends.Refused = out ≡ refusal_text response
RefusedWith rose response out ends.WriteFault = IsProperPrefix (refusal_text response) out
RefusedWith rose response out ends.OutOfMemory = IsWritten rose unavailable out
RefusedWith rose response out end = ⊥

abbrev pub RefusesSession : Type 0 → Option (List ℕ) → Option (List ℕ) → Response → SessionEnd → Type 0
RefusesSession rose before after response end = (out : List ℕ) × Appends before after out × RefusedWith rose response out end

-- From one moment to another these entries were left and these bytes written.
pub record Moves {D E : Type 0} (goes : D → List E → D → Type 0) (a b : World D) (es : List E) (out : List ℕ) : Type 0 where
  pub goes_by : goes a.service es b.service
  pub appended : Appends a.taken b.taken out

module _ {D E : Type 0} (goes : D → List E → D → Type 0) (own : Request → Response → Type 0) (enters : Request → E → Response → Type 0) where
  -- What became of a request that was read: it was answered, or the session ended.
  abbrev pub Exchanges : Type 0 → Bool → Request → World D → World D → Option SessionEnd → Type 0
  Exchanges rose last request a b None =
      (es : List E) × (out : List ℕ) × Moves goes a b es out × Replies own enters request false es out × (request.close ≡ false) × (last ≡ false)
  Exchanges rose last request a b (Some end) = (es : List E) × (out : List ℕ) × Moves goes a b es out × EndsWith own enters rose last end request es out

  -- The same of what came next.
  abbrev pub Responds : Type 0 → Bool → Result Request HttpEnd → World D → World D → Option SessionEnd → Type 0
  Responds rose last (Ok request) a b end = Exchanges rose last request a b end
  Responds rose last (Err cause) a b None = ⊥
  Responds rose last (Err cause) a b (Some end) = (out : List ℕ) × Moves goes a b [] out × EndsFor rose end cause out

  -- One turn: a request was read and answered, or the session ended. `left` is what the source has left then.
  abbrev pub Turns : Type 0 → Bool → World D → World D → Option (List ℕ) → Option SessionEnd → Type 0
  Turns rose last a b left None =
      (x : Exchange E) × IsMessage a.bytes x.request b.bytes × IsOpen own enters x × (last ≡ false) × Moves goes a b (option_to_list x.entry) (answer_text x.request x.response false)
  Turns rose last a b left (Some end) = (es : List E) × (out : List ℕ) × Moves goes a b es out × Ends own enters rose last end a.bytes left es out × ((took : List ℕ) × Consumes a.bytes left took)

  -- The turns so far, n requests.
  pub record Going (n : ℕ) (a b : World D) : Type 0 where
    pub exchanges : List (Exchange E)
    pub read : AreRead a.bytes exchanges b.bytes
    pub open_all : AllByRecursion (IsOpen own enters) exchanges
    pub count : length exchanges ≡ n
    pub moves : Moves goes a b (entries_of exchanges) (texts_of exchanges)

  -- A whole session.
  abbrev pub Serves : Type 0 → World D → World D → SessionEnd → Type 0
  Serves rose a b end = (es : List E) × (out : List ℕ) × Moves goes a b es out × Session own enters rose end a.bytes b.bytes es out
