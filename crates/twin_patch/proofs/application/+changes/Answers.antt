use Rattle.std.proofs.Common.{◌≡◌, ℕ, List, Option, Some, None, sym, ap, ◌∙◌, subst, rules}
use Rattle.std.specs.Prelude.{IfOk, IfSome, option_and_then}
use Rattle.json_decimal.specs.Number.{Number}
use Rattle.json_tree.specs.Values.{Json, object, Members}
use Rattle.json_tree.specs.View.{view, members_view}
use Rattle.json_tree.specs.declared.tree.Member.{Member}
use Rattle.twin_patch.specs.Objects.{value_under}
use Rattle.twin_patch.specs.Operations.{change_of}
use Rattle.twin_patch.specs.Patched.{changed_value}
use Rattle.twin_patch.specs.declared.draft.Draft.{Draft}
use Rattle.twin_patch.specs.Machinery.Orders.{IsInOrder, AreInOrder}
use Rattle.twin_patch.specs.Machinery.Drafts.{overlaid, draft_view, both}
use Rattle.twin_patch.proofs.Ordered.{value_order}
use Rattle.twin_patch.proofs.Overlays.{rise_of, rise_test}
use Rattle.twin_patch.proofs.Drafts.{view_edited}
use Rattle.twin_patch.proofs.Steps.{view_object}
use Rattle.twin_patch.proofs.application.+changes.Goals as goal

pub changed-changed_object-requires : goal.changed-changed_object-requires
changed-changed_object-requires t c =
    let is = ap draft_view c.in-Edited.is ∙ view_edited c.in-Edited.base c.in-Edited.edits in
    let order : AreInOrder (both c.in-Edited.base c.in-Edited.edits) = subst (λ (x : Option Json). IfSome x IsInOrder) is c.requires.order in
    (search rules, (order, c.requires.distinct))

pub changed-returns-in-Edited : goal.changed-returns-in-Edited
changed-returns-in-Edited t c =
    let is = ap draft_view c.in-Edited.is ∙ view_edited c.in-Edited.base c.in-Edited.edits in
    subst (λ (x : Option Json). IfOk c.changed_object.result (λ (d : Draft). draft_view d ≡ option_and_then (changed_value (change_of c.args.kind.now) c.args.key.now c.args.rest.now) x)) (sym is) c.changed_object.ensures

found_order : (key : List ℕ) (ms : Members Number) (x : Option Json) → AreInOrder ms → x ≡ value_under key ms → IfSome x IsInOrder
found_order key ms None o h = tt
found_order key ms (Some v) o h = value_order key ms v o (sym h)

pub changed_below-changed-requires : goal.changed_below-changed-requires
changed_below-changed-requires t c = (
  search rules,
  (found_order c.args.key.now (both c.args.base c.args.edits) (draft_view c.taken-base.result.1) c.requires.order c.taken-base.ensures.value, c.requires.distinct),
)

pub changed_tree-invariant_of-base : goal.changed_tree-invariant_of-base
changed_tree-invariant_of-base t c =
    let ms = members_view c.members.inside.items.items in
    let is : view c.args.tree ≡ object ms = ap view c.in-Members.is ∙ view_object c.in-Members.members ∙ ap (λ (l : List Member). object (members_view l)) (sym c.members.view_is) in
    let order : AreInOrder ms = subst IsInOrder is c.requires.order in
    record { rise = rise_test ms (rise_of ms order) }

pub changed_tree-returns-in-Members : goal.changed_tree-returns-in-Members
changed_tree-returns-in-Members t c =
    let ms = members_view c.members.inside.items.items in
    let is : view c.args.tree ≡ object ms = ap view c.in-Members.is ∙ view_object c.in-Members.members ∙ ap (λ (l : List Member). object (members_view l)) (sym c.members.view_is) in
    let same : object (overlaid draft_view c.new.result.entries ms) ≡ view c.args.tree = ap (λ (es : List (List ℕ × Draft)). object (overlaid draft_view es ms)) c.new.ensures.empty ∙ sym is in
    subst (λ (v : Json). IfOk c.changed_object.result (λ (d : Draft). draft_view d ≡ changed_value (change_of c.args.kind.now) c.args.key.now c.args.rest.now v)) same c.changed_object.ensures
