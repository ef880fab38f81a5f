use Rattle.std.proofs.Common.{◌∙◌, ℕ, List, ap}
use Rattle.json_tree.specs.Values.{Json, object, members_of}
use Rattle.canon_text.proofs.kinds.telemetry.Goals as goal

pub returns : goal.returns
returns c = c.object.ensures ∙ ap (λ (ms : List (List ℕ × Json)). object (members_of ms)) c.in_ok-members.ensures
