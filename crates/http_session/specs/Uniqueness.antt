-- There is one session of a stream.
use Rattle.std.specs.Prelude.{◌≡◌, ℕ, List, Option, Some}
use Rattle.std.specs.List.{AllZip}
use Rattle.http_ends.specs.declared.request.Request.{Request}
use Rattle.http_ends.specs.declared.response.Response.{Response}
use Rattle.http_session.specs.declared.ends.SessionEnd.{SessionEnd}
use Rattle.http_session.specs.declared.ends.SessionEnd.TheVariants.{Closed, Refused, Full, ReadFault, WriteFault, OutOfMemory}
use Rattle.http_session.specs.Legal.{AreLegal}
use Rattle.http_session.specs.Sessions.{Session}

-- The stream alone ends the session so.
abbrev pub IsDecided : SessionEnd → Type 0
IsDecided Closed = Unit {0}
IsDecided Refused = Unit {0}
IsDecided Full = Unit {0}
IsDecided ReadFault = ⊥
IsDecided WriteFault = ⊥
IsDecided OutOfMemory = ⊥

module _ {S E : Type 0} (own : Request → Response → Type 0) (enters : Request → E → Response → Type 0) (allowed : S → E → Type 0) (follows : S → E → S) (same : E → E → Type 0) where
  -- At each state a request has one response, and leaves one entry or none. Entries may count as one that are not equal, where
  -- one state follows both.
  pub record AreFunctions : Type 0 where
    pub apart : (request : Request) (entry : E) (a b : Response) → own request a → enters request entry b → ⊥
    pub one_own : (request : Request) (a b : Response) → own request a → own request b → a ≡ b
    pub one_entry : (s : S) (request : Request) (e f : E) (a b : Response) → enters request e a → enters request f b → allowed s e → allowed s f → same e f × (a ≡ b)
    pub one_state : (s : S) (e f : E) → same e f → follows s e ≡ follows s f

-- Two sessions over the same bytes that these bytes end, with legal entries from one state, have the same end, as many
-- entries of which each two in one place count as one, and the same bytes written.
abbrev pub OneSession : {S E : Type 0} → (Request → Response → Type 0) → (Request → E → Response → Type 0) → (S → E → Type 0) → (S → E → S) → (E → E → Type 0) → Type 0
OneSession {S} {E} own enters allowed follows same =
    AreFunctions own enters allowed follows same
    → (stream : List ℕ) (left unread : Option (List ℕ)) (s t u : S) (end other : SessionEnd) (es fs : List E) (out text : List ℕ)
    → IsDecided end → IsDecided other
    → Session own enters (Unit {0}) end (Some stream) left es out → Session own enters (Unit {0}) other (Some stream) unread fs text
    → AreLegal allowed follows s es t → AreLegal allowed follows s fs u
    → (end ≡ other) × AllZip same es fs × (out ≡ text)
