-- The responses of replies and refusals.
use Rattle.std.specs.Prelude.{◌≡◌, ℕ, List, [], Option, Some, None, IsSome}
use Rattle.json_tree.specs.Printing.{printed}
use Rattle.json_tree.specs.View.{view}
use Rattle.http_ends.specs.Replies.{IsAllowed, phrase_of}
use Rattle.http_ends.specs.declared.response.Response.{Response}
use Rattle.graph_asks.specs.declared.refusal.Refusal.{Refusal}
use Rattle.graph_asks.specs.declared.refusal.Refusal.TheVariants as refusals
use Rattle.graph_asks.specs.declared.reply.Reply.{Reply}
use Rattle.graph_asks.specs.declared.reply.Reply.TheVariants as replies
use Rattle.graph_routes.specs.Errors.{refusal_body, status_of}

-- The methods that a refusal lists: those of a path that does not have the method of the request.
abbrev pub allow_of : Refusal → Option (List ℕ)
allow_of (refusals.BadMethod allow) = Some allow
allow_of other = None

unfoldable pub response_to : Refusal → Response
response_to refusal = record { status = status_of refusal; allow = allow_of refusal; body = refusal_body refusal }

abbrev pub plain : ℕ → List ℕ → Response
plain status body = record { status = status; allow = None; body = body }

-- A tree is printed, a canonical text stands as it is, and nothing is said of what is done.
unfoldable pub response_for : Reply → Response
response_for (replies.Body tree) = plain 200 (printed (view tree))
response_for (replies.Created tree) = plain 201 (printed (view tree))
response_for (replies.Canon bytes) = plain 200 bytes
response_for replies.Done = plain 204 []
response_for (replies.Refused refusal) = response_to refusal

-- The methods that the refusal lists, if it lists any, are those of a path.
abbrev pub ListsMethods : Refusal → Type 0
ListsMethods (refusals.BadMethod allow) = IsAllowed 405 (Some allow)
ListsMethods other = Unit {0}

abbrev pub AnswersMethods : Reply → Type 0
AnswersMethods (replies.Refused refusal) = ListsMethods refusal
AnswersMethods other = Unit {0}
