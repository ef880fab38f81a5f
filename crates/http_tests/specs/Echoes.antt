-- The replies of the service of the tests.
use Rattle.std.specs.Prelude.{ℕ, List, None}
use Rattle.http_ends.specs.declared.response.Response.{Response}

abbrev pub echoed : ℕ → List ℕ → Response
echoed status body = record { status = status; allow = None; body = body }
