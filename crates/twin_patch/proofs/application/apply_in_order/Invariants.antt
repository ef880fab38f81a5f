use Rattle.std.proofs.Common.{◌≡◌, drop, Some}
use Rattle.json_tree.specs.Values.{Json}
use Rattle.json_tree.specs.View.{view}
use Rattle.twin_patch.specs.Operations.{operations_of}
use Rattle.twin_patch.specs.Patched.{patched_from}
use Rattle.twin_patch.specs.Machinery.Orders.{IsInOrder}
use Rattle.twin_patch.specs.Machinery.Drafts.{draft_view}
use Rattle.twin_patch.proofs.application.apply_in_order.Given as goal

abbrev pub invariant-operations : goal.invariant-operations
invariant-operations l =
    (v : Json) × (draft_view l.patched ≡ Some v) × IsInOrder v × (patched_from l.index (operations_of (drop l.index l.op-items)) v ≡ patched_from 0 (operations_of l.patch.ops) (view l.fn.tree))
