use Rattle.std.proofs.Common.{◌≡◌}
use Rattle.graph_steps.specs.twins.Machinery.Keeping.{twins_under}
use Rattle.graph_steps.proofs.twins.listing.next_twin.Given as goal

abbrev pub invariant-loop-id : goal.invariant-loop-id
invariant-loop-id l =
    goal.iterator-loop-id.can_next l.ids × goal.iterator-loop-id.is_finite l.ids
    × (twins_under l.twins.entries l.ids ≡ twins_under l.twins.entries l.initial.ids)
