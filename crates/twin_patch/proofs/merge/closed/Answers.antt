use Rattle.std.proofs.Common.{◌≡◌, Some, sym, ap, ◌∙◌}
use Rattle.json_tree.specs.Values.{Json, object}
use Rattle.twin_patch.specs.Machinery.Drafts.{draft_view, both}
use Rattle.twin_patch.proofs.Drafts.{view_edited}
use Rattle.twin_patch.proofs.merge.closed.Goals as goal

unwrapped : (v w : Json) → Some v ≡ Some w → v ≡ w
unwrapped v w h = cc

pub returns-in_ok-members-in-Edited : goal.returns-in_ok-members-in-Edited
returns-in_ok-members-in-Edited c = λ v h.
    let base = c.in-Edited.base in
    let edits = c.in-Edited.edits in
    c.object_of.ensures ∙ ap object c.in_ok-members-in-Edited.ensures ∙ unwrapped (object (both base edits)) v (sym (ap draft_view c.in-Edited.is ∙ view_edited base edits) ∙ h)
