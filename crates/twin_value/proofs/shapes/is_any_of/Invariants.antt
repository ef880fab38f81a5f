use Rattle.std.proofs.Common.{take}
use Rattle.json_tree.specs.View.{view}
use Rattle.twin_value.specs.Fits.{IsAnyOf}
use Rattle.twin_value.proofs.shapes.is_any_of.Given as goal

-- the value is none of the entries so far
abbrev pub invariant-loop-entry : goal.invariant-loop-entry
invariant-loop-entry l = IsAnyOf (take l.entry-index l.entries) (view l.tree) → ⊥
