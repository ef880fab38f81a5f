use Rattle.std.proofs.Common.{◌≡◌}
use Rattle.graph_steps.specs.twins.Machinery.Rows.{first_full}
use Rattle.graph_steps.proofs.twins.index.first_full.Given as goal

abbrev pub invariant-loop-model : goal.invariant-loop-model
invariant-loop-model l =
    goal.iterator-loop-model.can_next l.rest × goal.iterator-loop-model.is_finite l.rest
    × (first_full l.rest ≡ first_full l.initial.rest)
