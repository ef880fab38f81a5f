use Rattle.std.proofs.Common.{ℕ, List, Some, ap, ◌∙◌}
use Rattle.json_tree.specs.Values.{object}
use Rattle.json_tree.specs.View.{members_view}
use Rattle.twin_patch.specs.Machinery.Drafts.{put_entry, overlaid, draft_view, both}
use Rattle.twin_patch.proofs.Overlays.{rise_by, inserted_entry}
use Rattle.twin_patch.proofs.Drafts.{view_edited}
use Rattle.twin_patch.proofs.draft.set.Goals as goal

pub returns : goal.returns
returns c =
    let ms = members_view c.args.base.members.items in
    view_edited c.args.base c.insert.new.self
    ∙ ap (λ ns. Some (object ns)) (
    ap (λ es. overlaid draft_view es ms) c.in_ok-_old.ensures.entries ∙ inserted_entry draft_view c.in_ok-key.key c.args.entry c.args.edits.entries ms (rise_by ms c.args.base.rise)
    ∙ ap (λ (k : List ℕ). put_entry k (draft_view c.args.entry) (both c.args.base c.args.edits)) c.in_ok-key.ensures
    )
