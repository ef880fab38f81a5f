-- The text of a reply (RFC 9112, section 4).
use Rattle.std.specs.Prelude.{◌≡◌, ◌≢◌, ℕ, Bool, List, [], ◌∷◌, ◌++◌, length, Option, Some, None, if◌then◌else◌, ◌==◌, bytes_eq, codes, decimal, IsTrue, IsSome, unwrap_or}
use Rattle.std.specs.List.{list_any}
use Rattle.http_ends.specs.declared.response.Response.{Response}
use Rattle.http_ends.specs.Lines.{fields_text}

-- The statuses that are written, each with its phrase (RFC 9110, section 15).
abbrev pub phrases : List (ℕ × List ℕ)
phrases =
    (200, codes "OK") ∷ (201, codes "Created") ∷ (204, codes "No Content") ∷ (400, codes "Bad Request") ∷ (404, codes "Not Found")
    ∷ (405, codes "Method Not Allowed") ∷ (409, codes "Conflict") ∷ (413, codes "Content Too Large") ∷ (501, codes "Not Implemented")
    ∷ (503, codes "Service Unavailable") ∷ (507, codes "Insufficient Storage") ∷ []

-- The phrase beside a status.
abbrev pub phrase_in : List (ℕ × List ℕ) → ℕ → Option (List ℕ)
phrase_in [] status = None
phrase_in (entry ∷ entries) status = if entry.0 == status then Some entry.1 else phrase_in entries status

abbrev pub phrase_of : ℕ → Option (List ℕ)
phrase_of status = phrase_in phrases status

-- The lists of methods that a resource may have.
abbrev pub method_lists : List (List ℕ)
method_lists =
    codes "GET, POST" ∷ codes "DELETE, GET, PATCH" ∷ codes "GET" ∷ codes "DELETE, GET, PATCH, PUT" ∷ codes "GET, PATCH" ∷ codes "POST" ∷ []

-- The field `Allow` is there exactly where the status is 405, and then it is one of these lists.
abbrev pub IsAllowed : ℕ → Option (List ℕ) → Type 0
IsAllowed status None = status ≢ 405
IsAllowed status (Some methods) = (status ≡ 405) × IsTrue (list_any (bytes_eq methods) method_lists)

-- The fields that tell of a body of this size: none where the status is 204 (RFC 9110, section 8.6).
abbrev pub content_fields : ℕ → ℕ → List (List ℕ × List ℕ)
content_fields status size =
    if status == 204 then [] else (codes "Content-Length", decimal size) ∷ (codes "Content-Type", codes "application/json") ∷ []

abbrev pub allow_fields : Option (List ℕ) → List (List ℕ × List ℕ)
allow_fields None = []
allow_fields (Some methods) = (codes "Allow", methods) ∷ []

abbrev pub close_fields : Bool → List (List ℕ × List ℕ)
close_fields close = if close then (codes "Connection", codes "close") ∷ [] else []

-- The status line.
abbrev pub status_line : ℕ → List ℕ → List ℕ
status_line status phrase = codes "HTTP/1.1 " ++ decimal status ++ codes " " ++ phrase ++ codes "\r\n"

-- The head of a reply.
abbrev pub reply_head : Response → Bool → List ℕ
reply_head r close =
    status_line r.status (unwrap_or (phrase_of r.status) []) ++ fields_text (content_fields r.status (length r.body)) ++ fields_text (allow_fields r.allow) ++ fields_text (close_fields close) ++ codes "\r\n"

-- The text of a reply: its head, and its body but where the head alone was asked for (RFC 9110, section 9.3.2).
abbrev pub reply_text : Response → Bool → Bool → List ℕ
reply_text r close head_only = reply_head r close ++ (if head_only then [] else r.body)

-- The response can be written: its status is one that is, a list of methods stands beside the status 405 alone, and the
-- status 204 has no body.
pub record IsWritable (response : Response) : Type 0 where
  pub status : IsSome (phrase_of response.status)
  pub allow : IsAllowed response.status response.allow
  pub empty : response.status ≡ 204 → response.body ≡ []
