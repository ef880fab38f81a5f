use Rattle.std.proofs.Common.{◌≡◌, take, string_bytes}
use Rattle.graph_steps.specs.Pages.{token_of}
use Rattle.graph_steps.proofs.paging.token.token_text.Given as goal

abbrev pub invariant-ids : goal.invariant-ids
invariant-ids l = string_bytes l.text ≡ token_of (take l.i l.ids)
