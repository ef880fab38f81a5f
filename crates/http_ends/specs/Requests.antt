-- The text of a client's request (RFC 9112, section 3).
use Rattle.std.specs.Prelude.{ℕ, List, [], ◌∷◌, ◌++◌, length, Option, Some, None, codes, decimal}
use Rattle.http_ends.specs.Lines.{fields_text}

-- The request line.
abbrev pub request_line : List ℕ → List ℕ → List ℕ
request_line method target = method ++ codes " " ++ target ++ codes " HTTP/1.1\r\n"

-- The host and the port, and that the connection is to be closed after the reply.
abbrev pub host_fields : List ℕ → ℕ → List (List ℕ × List ℕ)
host_fields host port = (codes "Host", host ++ codes ":" ++ decimal port) ∷ (codes "Connection", codes "close") ∷ []

-- The fields that tell of a body, and the body.
abbrev pub body_fields : Option (List ℕ) → List (List ℕ × List ℕ)
body_fields None = []
body_fields (Some body) = (codes "Content-Length", decimal (length body)) ∷ (codes "Content-Type", codes "application/json") ∷ []

abbrev pub body_bytes : Option (List ℕ) → List ℕ
body_bytes None = []
body_bytes (Some body) = body

abbrev pub request_text : List ℕ → ℕ → List ℕ → List ℕ → Option (List ℕ) → List ℕ
request_text host port method target body =
    request_line method target ++ fields_text (host_fields host port) ++ fields_text (body_fields body) ++ codes "\r\n" ++ body_bytes body
