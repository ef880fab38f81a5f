use Rattle.std.proofs.Common.{◌≡◌}
use Rattle.std.specs.Map.{values_of}
use Rattle.slab.specs.Slab.{get}
use Rattle.rel_graph.specs.Slots.{edges_at}
use Rattle.rel_graph.proofs.listing.next_edge.Given as goal

abbrev pub invariant-loop-slot : goal.invariant-loop-slot
invariant-loop-slot g l =
    (goal.iterator-loop-slot g).can_next l.slots × (goal.iterator-loop-slot g).is_finite l.slots
    × (edges_at (get l.edges) (values_of l.slots) ≡ edges_at (get l.edges) (values_of l.initial.slots))
