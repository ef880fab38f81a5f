use Rattle.std.proofs.Common.{◌≡◌, take}
use Rattle.canon_print.specs.Machinery.Lent.{values_now}
use Rattle.canon_print.proofs.sorting.lent.Given as goal

abbrev pub invariant-loop-item : goal.invariant-loop-item
invariant-loop-item g l = values_now l.list.items ≡ take l.item-index l.items
