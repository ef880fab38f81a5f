use Rattle.std.proofs.Common.{ap, ◌∙◌}
use Rattle.std.specs.Map.{values_of}
use Rattle.slab.specs.Slab as slab
use Rattle.rel_graph.specs.Edges.{out_past}
use Rattle.rel_graph.specs.Slots.{edges_at}
use Rattle.rel_graph.proofs.Steps.{stand}
use Rattle.rel_graph.proofs.Listed.{listed-out-after}
use Rattle.rel_graph.proofs.rels.Rels.out_after.Goals as goal

pub returns : goal.returns
returns g c =
    ap (λ es. edges_at (slab.get c.self.inside.edges) (values_of es)) c.row_after.ensures.rest
    ∙ listed-out-after (slab.get c.self.inside.edges) c.args.source.now c.args.id.now c.self.inside.order (stand c.self.invariant)
    ∙ ap (out_past c.args.source.now c.args.id.now) c.self.view_is
