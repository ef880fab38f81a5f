use Rattle.std.proofs.Common.{◌≡◌, ℕ, List, Option, Some, None, sym, ap, ◌∙◌}
use Rattle.std.specs.Map.{lookup}
use Rattle.std.specs.BTreeMap.{is_at}
use Rattle.json_tree.specs.View.{members_view}
use Rattle.twin_patch.specs.Objects.{value_under, with_member}
use Rattle.twin_patch.specs.Machinery.Orders.{compared_keys}
use Rattle.twin_patch.specs.Machinery.Drafts.{overlaid, draft_view}
use Rattle.twin_patch.specs.declared.draft.Draft.{Draft}
use Rattle.twin_patch.proofs.Overlays.{rise_by, set_after_removal, set_after_base, looked_up, found_or}
use Rattle.twin_patch.proofs.draft.taken.Goals as goal

pub returns-in-Some-clause-value : goal.returns-in-Some-clause-value
returns-in-Some-clause-value c =
    let ms = members_view c.args.base.members.items in
    let found : Some c.in-Some.entry ≡ lookup (is_at (compared_keys c.args.key.now)) c.args.edits.now.entries = c.in-Some.ensures.value in
    ap (λ (x : Option Draft). found_or draft_view x (value_under c.args.key.now ms)) found
    ∙ sym (looked_up draft_view c.args.key.now c.args.edits.now.entries ms (rise_by ms c.args.base.rise))

pub returns-in-Some-clause-rest : goal.returns-in-Some-clause-rest
returns-in-Some-clause-rest c = λ v.
    let ms = members_view c.args.base.members.items in
    ap (λ es. with_member c.args.key.now v (overlaid draft_view es ms)) c.in-Some.ensures.entries
    ∙ set_after_removal draft_view c.args.key.now v c.args.edits.now.entries ms (rise_by ms c.args.base.rise)

pub returns-in-None-clause-value : goal.returns-in-None-clause-value
returns-in-None-clause-value c =
    let ms = members_view c.args.base.members.items in
    let none : None ≡ lookup (is_at (compared_keys c.args.key.now)) c.args.edits.now.entries = c.in-None.ensures.value in
    c.taken_from_base.ensures.value ∙ ap (λ (x : Option Draft). found_or draft_view x (value_under c.args.key.now ms)) none
    ∙ sym (looked_up draft_view c.args.key.now c.args.edits.now.entries ms (rise_by ms c.args.base.rise))

pub returns-in-None-clause-rest : goal.returns-in-None-clause-rest
returns-in-None-clause-rest c = λ v.
    let base = c.taken_from_base.result.0 in
    let ms = members_view c.args.base.members.items in
    let ns = members_view base.members.items in
    let es = c.args.edits.now.entries in
    ap (λ (fs : List (List ℕ × Draft)). with_member c.args.key.now v (overlaid draft_view fs ns)) c.in-None.ensures.entries
    ∙ set_after_removal draft_view c.args.key.now v es ns (rise_by ns base.rise)
    ∙ set_after_base draft_view c.args.key.now v es ns ms (rise_by ns base.rise) (rise_by ms c.args.base.rise) c.taken_from_base.ensures.others
