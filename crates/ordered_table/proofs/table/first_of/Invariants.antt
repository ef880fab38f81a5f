use Rattle.std.proofs.Common.{◌≡◌}
use Rattle.ordered_table.specs.Rows.{flat}
use Rattle.ordered_table.proofs.table.first_of.Given as goal

abbrev pub invariant-loop-text : goal.invariant-loop-text
invariant-loop-text g l =
    (goal.iterator-loop-text g).can_next l.rows × (goal.iterator-loop-text g).is_finite l.rows × (flat l.rows ≡ flat l.initial.rows)
