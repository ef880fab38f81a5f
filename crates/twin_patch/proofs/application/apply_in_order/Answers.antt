use Rattle.std.proofs.Common.{◌≡◌, ◌+◌, true, Option, Some, None, drop, refl, sym, ap, ◌∙◌, subst, rules}
use Rattle.std.specs.Prelude.{is_some, option_and_then}
use Rattle.json_tree.specs.Values.{Json}
use Rattle.json_tree.specs.View.{view}
use Rattle.twin_patch.specs.Operations.{change_of, operation_of, operations_of}
use Rattle.twin_patch.specs.Patched.{applied, go_on, patched_from}
use Rattle.twin_patch.specs.Machinery.Orders.{IsInOrder}
use Rattle.twin_patch.specs.Machinery.Drafts.{draft_view}
use Rattle.twin_patch.proofs.Drafts.{view_whole}
use Rattle.twin_patch.proofs.Ordered.{sorted_order, applied_order}
use Rattle.twin_patch.proofs.Steps.{one_more}
use Rattle.twin_patch.proofs.application.apply_in_order.Goals as goal

pub operations-init : goal.operations-init
operations-init c =
    let tree = c.args.tree in
    let sorted = c.requires.order in
    let order : IsInOrder (view tree) = subst IsInOrder (sym sorted.1) (sorted_order sorted.0) in
    (view tree, view_whole tree, order, rw c.as_slice-op-items.ensures refl)

there : (x : Option Json) → is_some x ≡ true → (v : Json) × (x ≡ Some v)
there None h = absurd cc
there (Some v) h = (v, refl)

pub operations-preserved : goal.operations-preserved
operations-preserved c =
    let ops = c.as_slice-op-items.result.now in
    let op = c.op-item.result in
    let index = c.operations.index in
    let v = c.operations.invariant.0 in
    let is : draft_view c.in_ok-patched.patched ≡ applied (operation_of op) v = c.in_ok-patched.ensures ∙ ap (λ (x : Option Json). option_and_then (applied (operation_of op)) x) c.operations.invariant.1 in
    let told = c.is_there.ensures in
    let flag = c.if-not-is_there.false in
    let found = there (draft_view c.in_ok-patched.patched) (search rules) in (
      found.0,
      found.1,
      applied_order (change_of op.kind) op.path v found.0 c.operations.invariant.2 (sym is ∙ found.1),
      ap (λ (x : Option Json). go_on index x (patched_from (index + 1) (operations_of (drop (index + 1) ops)))) (sym found.1 ∙ is)
          ∙ sym (one_more ops index op v c.operations-test.true c.op-item.is) ∙ c.operations.invariant.3,
    )
