use Rattle.std.proofs.Common.{ap, ◌∙◌}
use Rattle.std.specs.Map.{values_of}
use Rattle.slab.specs.Slab as slab
use Rattle.rel_graph.specs.Edges.{into_past}
use Rattle.rel_graph.specs.Slots.{edges_at}
use Rattle.rel_graph.proofs.Listed.{listed-into-after}
use Rattle.rel_graph.proofs.rels.Rels.into_after.Goals as goal

pub returns : goal.returns
returns g c =
    ap (λ es. edges_at (slab.get c.self.inside.edges) (values_of es)) c.row_after.ensures.rest
    ∙ listed-into-after (slab.get c.self.inside.edges) c.self.inside.order c.self.inside.index.links c.self.inside.index.counts c.self.inside.len c.self.invariant c.args.target.now c.args.source_and_id.now c.row_after.ensures.ordered
    ∙ ap (into_past c.args.target.now c.args.source_and_id.now) c.self.view_is
