-- The heads of requests that are read: those of the grammar of the crate httparse in its default configuration, whose
-- target is text in UTF-8 and whose version is 1.0 or 1.1, within these limits.
use Rattle.std.specs.Prelude.{ℕ, ◌≤◌, Bool, ◌||◌, List, length, map, ◌==◌, unwrap_or, IsTrue}
use Rattle.std.specs.List.{list_any, before_first, after_first}
use Rattle.httparse.specs.Grammar.{RequestHead, print_request, ReadsRequest}
use Rattle.httparse.specs.Spans.{name_and_value}
use Rattle.http_ends.specs.Fields.{is_framed, length_said, lengths, says_close}

-- The fields of a head by name and value.
abbrev pub fields_of : RequestHead → List (List ℕ × List ℕ)
fields_of h = map name_and_value h.fields

-- The head has at most 16,384 bytes, empty lines before it included, and 64 fields, and says at most one length.
pub record HeadIsWithinLimits (h : RequestHead) : Type 0 where
  pub size : length (print_request h) ≤ 16384
  pub few : length h.fields ≤ 64
  pub framed : IsTrue (is_framed (lengths (fields_of h)))

-- The stream begins with this head, and these bytes follow it.
pub record BeginsWith (stream : List ℕ) (h : RequestHead) (after : List ℕ) : Type 0 where
  pub reads : ReadsRequest stream h after
  pub within : HeadIsWithinLimits h

-- How many bytes the body has: none where no length is said.
abbrev pub body_length : RequestHead → ℕ
body_length h = unwrap_or (length_said (lengths (fields_of h))) 0

-- The target up to the first `?`, and what follows that.
abbrev pub path_of : RequestHead → List ℕ
path_of h = before_first (λ b. b == 63) h.target

abbrev pub query_of : RequestHead → List ℕ
query_of h = after_first (λ b. b == 63) h.target

-- The connection is to be closed after the reply: the version is 1.0, or the word `close` is there.
abbrev pub asks_to_close : RequestHead → Bool
asks_to_close h = (h.minor == 0) || list_any says_close (fields_of h)
