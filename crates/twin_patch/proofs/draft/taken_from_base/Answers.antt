use Rattle.std.proofs.Common.{sym, ap, ◌∙◌}
use Rattle.json_tree.specs.Values.{null, Members}
use Rattle.json_tree.specs.View.{view, members_view}
use Rattle.json_decimal.specs.Number.{Number}
use Rattle.twin_patch.specs.Objects.{value_under}
use Rattle.twin_patch.specs.Machinery.Orders.{IsFoundAt, IsMissingAt, put_at}
use Rattle.twin_patch.proofs.Overlays.{rise_by, rise_test, rise_put, put_others}
use Rattle.twin_patch.proofs.Drafts.{view_whole, view_absent}
use Rattle.twin_patch.proofs.Edits.{value_missing}
use Rattle.twin_patch.proofs.Steps.{part_is}
use Rattle.twin_patch.proofs.draft.taken_from_base.Goals as goal

pub place_of-requires : goal.place_of-requires
place_of-requires c = rw c.as_slice.ensures.value (rise_by (members_view c.args.base.members.items) c.args.base.rise)

pub invariant_of-result : goal.invariant_of-result
invariant_of-result c =
    let ms = members_view c.args.base.members.items in
    record { rise = rw c.taken_at-tree.ensures.left (rise_test (put_at c.in-Ok.at null ms) (rise_put ms c.in-Ok.at null (rise_by ms c.args.base.rise))) }

pub returns-in-Ok-clause-value : goal.returns-in-Ok-clause-value
returns-in-Ok-clause-value c =
    let ms = members_view c.args.base.members.items in
    let found : IsFoundAt c.args.key.now ms c.in-Ok.at = rw (← c.as_slice.ensures.value, ← c.as_str.ensures) (c.in-Ok.ensures.stands) in
    view_whole c.taken_at-tree.result ∙ sym (part_is c.args.key.now ms c.in-Ok.at (view c.taken_at-tree.result) found c.taken_at-tree.ensures.value)

pub returns-in-Ok-clause-others : goal.returns-in-Ok-clause-others
returns-in-Ok-clause-others c = λ k other.
    let ms = members_view c.args.base.members.items in
    let found : IsFoundAt c.args.key.now ms c.in-Ok.at = rw (← c.as_slice.ensures.value, ← c.as_str.ensures) (c.in-Ok.ensures.stands) in
    ap (λ (ns : Members Number). value_under k ns) c.taken_at-tree.ensures.left ∙ put_others c.args.key.now k ms c.in-Ok.at null found other

pub returns-in-Err-clause-value : goal.returns-in-Err-clause-value
returns-in-Err-clause-value c =
    let ms = members_view c.args.base.members.items in
    let missing : IsMissingAt c.args.key.now ms c.in-Err.field-0 = rw (← c.as_slice.ensures.value, ← c.as_str.ensures) (c.in-Err.ensures.stands) in
    view_absent ∙ sym (value_missing ms c.args.key.now c.in-Err.field-0 missing)
