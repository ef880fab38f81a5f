use Rattle.std.proofs.Common.{ap, ◌∙◌}
use Rattle.std.specs.Map.{values_of}
use Rattle.slab.specs.Slab as slab
use Rattle.rel_graph.specs.Edges.{into_of}
use Rattle.rel_graph.specs.Slots.{edges_at}
use Rattle.rel_graph.proofs.Listed.{listed-into}
use Rattle.rel_graph.proofs.rels.Rels.into.Goals as goal

pub returns : goal.returns
returns g c =
    ap (λ es. edges_at (slab.get c.self.inside.edges) (values_of es)) c.row.ensures.rest
    ∙ listed-into (slab.get c.self.inside.edges) c.self.inside.order c.self.inside.index.links c.self.inside.index.counts c.self.inside.len c.self.invariant c.args.target.now c.row.ensures.ordered
    ∙ ap (into_of c.args.target.now) c.self.view_is
