-- Laws of messages.
use Rattle.std.specs.Prelude.{◌≡◌, ℕ, ◌+◌, ◌^◌, ◌<◌, ◌≤◌, Bool, true, false, List, [], ◌++◌, length, Option, Result, Ok, IsTrue, IsSome, ◌==◌}
use Rattle.std.specs.List.{list_all, before_first, after_first}
use Rattle.std.specs.Char.{is_ascii_graphic}
use Rattle.httparse.specs.Grammar.{IsToken}
use Rattle.http_ends.specs.declared.request.Request.{Request}
use Rattle.http_ends.specs.declared.request.HttpEnd.{HttpEnd}
use Rattle.http_ends.specs.declared.response.Response.{Response}
use Rattle.http_ends.specs.Messages.{IsNext}
use Rattle.http_ends.specs.Replies.{phrase_of, IsAllowed, reply_text}
use Rattle.http_ends.specs.ReplyReading.{BeginsWithReply}
use Rattle.http_ends.specs.Requests.{body_bytes, request_text}

-- At most one answer comes next in a stream, with one rest.
abbrev pub OneNext : Type 0
OneNext = (stream : List ℕ) (a b : Result Request HttpEnd) (r q : List ℕ) → IsNext stream a r → IsNext stream b q → (a ≡ b) × (r ≡ q)

-- A stream begins with at most one reply, with one rest.
abbrev pub OneReply : Type 0
OneReply = (stream : List ℕ) (a b : Response) (r q : List ℕ) → BeginsWithReply stream a r → BeginsWithReply stream b q → (a ≡ b) × (r ≡ q)

-- Words of which a request is made: visible ASCII, a method that is a token, and together within the limit of a head.
pub record AreRequestWords (host : List ℕ) (port : ℕ) (method target : List ℕ) : Type 0 where
  pub host_visible : IsTrue (list_all is_ascii_graphic host)
  pub port_fits : port < 2 ^ 16
  pub method_token : IsToken method
  pub some_target : 0 < length target
  pub target_visible : IsTrue (list_all is_ascii_graphic target)
  pub size : length host + length method + length target ≤ 16000

-- The text of a request, whatever follows it, is that request's message.
abbrev pub RequestsReadBack : Type 0
RequestsReadBack =
    (host : List ℕ) (port : ℕ) (method target : List ℕ) (body : Option (List ℕ)) (rest : List ℕ)
    → AreRequestWords host port method target → length (body_bytes body) ≤ 4194304
    → IsNext (request_text host port method target body ++ rest) (Ok (record {
      method = method;
      path = before_first (λ b. b == 63) target;
      query = after_first (λ b. b == 63) target;
      body = body_bytes body;
      close = true;
    })) rest

-- The text of a reply, whatever follows it, is that reply.
abbrev pub RepliesReadBack : Type 0
RepliesReadBack =
    (r : Response) (close : Bool) (rest : List ℕ)
    → IsSome (phrase_of r.status) → IsAllowed r.status r.allow → (r.status ≡ 204 → r.body ≡ []) → length r.body ≤ 134217728
    → BeginsWithReply (reply_text r close false ++ rest) r rest
