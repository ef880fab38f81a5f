use Rattle.std.proofs.Common.{◌≡◌, ◌++◌, map, length}
use Rattle.std.specs.Prelude.{reverse}
use Rattle.json_tree.specs.View.{view}
use Rattle.canon_text.proofs.Steps.{values_of}
use Rattle.canon_text.proofs.sorting.without_names.Given as goal

-- the values that are left, and those that were taken, last first, are all
abbrev pub invariant-left : goal.invariant-left
invariant-left l = values_of l.left.items ++ map view (reverse l.trees.items) ≡ values_of l.fn.values.items

abbrev pub decreases-left : goal.decreases-left
decreases-left l = length l.left.items
