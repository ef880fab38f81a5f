-- The replies that a session makes by itself. Each of them is a closing one.
use Rattle.std.specs.Prelude.{ℕ, true, false, List, Option, Some, None, codes}
use Rattle.http_ends.specs.declared.request.HttpEnd.{HttpEnd}
use Rattle.http_ends.specs.declared.request.HttpEnd.TheVariants.{Closed, BadHead, BodyTooLong, TransferCoding, CutOff, ReadFault, OutOfMemory}
use Rattle.http_ends.specs.declared.response.Response.{Response}
use Rattle.http_ends.specs.Replies.{reply_text}

abbrev pub error : ℕ → List ℕ → Response
error status body = record { status = status; allow = None; body = body }

-- What is answered in place of a request that cannot be read. It is written with its body, also where the head says the
-- method HEAD.
abbrev pub refusal_of : HttpEnd → Option Response
refusal_of BadHead = Some (error 400 (codes "{\"error\":{\"code\":\"BadHead\"}}"))
refusal_of CutOff = Some (error 400 (codes "{\"error\":{\"code\":\"CutOff\"}}"))
refusal_of TransferCoding = Some (error 501 (codes "{\"error\":{\"code\":\"TransferCoding\"}}"))
refusal_of BodyTooLong = Some (error 413 (codes "{\"error\":{\"code\":\"BodyTooLong\",\"limit\":4194304}}"))
refusal_of Closed = None
refusal_of ReadFault = None
refusal_of OutOfMemory = None

-- The text of a closing refusal.
abbrev pub refusal_text : Response → List ℕ
refusal_text response = reply_text response true false

-- What is written where no memory was found and no entry is in hand.
abbrev pub unavailable : List ℕ
unavailable = codes "HTTP/1.1 503 Service Unavailable\r\nContent-Length: 32\r\nContent-Type: application/json\r\nConnection: close\r\n\r\n{\"error\":{\"code\":\"OutOfMemory\"}}"
