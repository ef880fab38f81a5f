use Rattle.std.proofs.Common.{subst}
use Rattle.slab.specs.Slab as slab
use Rattle.rel_graph.specs.Edges.{EdgesInOrder}
use Rattle.rel_graph.proofs.Listed.{in_order}
use Rattle.rel_graph.proofs.rels.Rels.len.Goals as goal

pub returns-clause-ordered : goal.returns-clause-ordered
returns-clause-ordered g c =
    subst EdgesInOrder c.self.view_is
    (in_order (slab.get c.self.inside.edges) c.self.inside.order c.self.inside.index.links c.self.inside.index.counts c.self.inside.len c.self.invariant)
