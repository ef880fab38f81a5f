use Rattle.std.proofs.Common.{ap, ◌∙◌}
use Rattle.std.specs.Map.{values_of}
use Rattle.slab.specs.Slab as slab
use Rattle.rel_graph.specs.Edges.{out_of}
use Rattle.rel_graph.specs.Slots.{edges_at}
use Rattle.rel_graph.proofs.Steps.{stand}
use Rattle.rel_graph.proofs.Listed.{listed-out}
use Rattle.rel_graph.proofs.rels.Rels.out.Goals as goal

pub returns : goal.returns
returns g c =
    ap (λ es. edges_at (slab.get c.self.inside.edges) (values_of es)) c.row.ensures.rest
    ∙ listed-out (slab.get c.self.inside.edges) c.args.source.now c.self.inside.order (stand c.self.invariant)
    ∙ ap (out_of c.args.source.now) c.self.view_is
