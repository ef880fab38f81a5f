-- How a request that was read whole is answered.
use Rattle.std.specs.Prelude.{◌≡◌, ℕ, ◌+◌, ◌≤◌, Bool, List, [], ◌∷◌, length, Option, Some, None, Result, Ok, Err, is_some, option_to_list, bytes_eq, codes}
use Rattle.http_ends.specs.declared.request.Request.{Request}
use Rattle.http_ends.specs.declared.response.Response.{Response}
use Rattle.http_ends.specs.Replies.{reply_text}
use Rattle.http_session.specs.declared.service.Answer.{Answer}
use Rattle.http_session.specs.declared.service.Trouble.{Trouble}
use Rattle.http_session.specs.declared.service.Trouble.TheVariants.{NoEntry, EntryInHand}

-- The request has no more bytes than one that is read has: 16,384 in its path and query together, 4,194,304 in its body.
pub record RequestIsWithinLimits (request : Request) : Type 0 where
  pub target : length request.path + length request.query ≤ 16384
  pub body : length request.body ≤ 4194304

-- The head of the response alone is asked for (RFC 9110, section 9.3.2).
abbrev pub is_head : Request → Bool
is_head request = bytes_eq request.method (codes "HEAD")

-- The text of the reply to a request.
abbrev pub answer_text : Request → Response → Bool → List ℕ
answer_text request response close = reply_text response close (is_head request)

module _ {E : Type 0} (own : Request → Response → Type 0) (enters : Request → E → Response → Type 0) where
  -- The request's own bytes decide the response and there is no entry, or the request left this entry.
  abbrev pub IsAnswered : Request → Option E → Response → Type 0
  IsAnswered request None response = own request response
  IsAnswered request (Some entry) response = enters request entry response

  -- What a service that goes from one moment to another makes of a request.
  abbrev pub Answers : {D : Type 0} → (D → List E → D → Type 0) → D → D → Request → Result Answer Trouble → Type 0
  Answers goes before after request (Ok answer) =
      (entry : Option E) × goes before (option_to_list entry) after × IsAnswered request entry answer.response × (answer.entered ≡ is_some entry)
  Answers goes before after request (Err NoEntry) = goes before [] after
  Answers goes before after request (Err EntryInHand) = (entry : E) × (response : Response) × goes before (entry ∷ []) after × enters request entry response
