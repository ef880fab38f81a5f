use Rattle.std.proofs.Common.{◌≡◌, Some, None, sym, ap, ◌∙◌}
use Rattle.std.specs.Option.{option_copied, option_and_then}
use Rattle.std.specs.Map.{lookup}
use Rattle.std.specs.BTreeMap.{is_at}
use Rattle.slab.specs.Slab as slab
use Rattle.rel_graph.specs.Edges.{key_cmp, edge_at}
use Rattle.rel_graph.proofs.Joined.{edge_at-edges}
use Rattle.rel_graph.proofs.Steps.{stand}
use Rattle.rel_graph.proofs.rels.Rels.get.Goals as goal

pub returns-in-Some : goal.returns-in-Some
returns-in-Some g c =
    let found : lookup (is_at (key_cmp (c.args.source.now, c.args.id.now))) c.self.inside.order ≡ Some c.in-Some.slot.now = sym c.get.ensures ∙ ap option_copied c.in-Some.is in
    c.get-in-Some.ensures
    ∙ sym (edge_at-edges (slab.get c.self.inside.edges) (c.args.source.now, c.args.id.now) c.self.inside.order (stand c.self.invariant) ∙ ap (option_and_then (slab.get c.self.inside.edges)) found)
    ∙ ap (edge_at c.args.source.now c.args.id.now) c.self.view_is

pub returns-in-None : goal.returns-in-None
returns-in-None g c =
    let found : lookup (is_at (key_cmp (c.args.source.now, c.args.id.now))) c.self.inside.order ≡ None = sym c.get.ensures ∙ ap option_copied c.in-None.is in
    sym (edge_at-edges (slab.get c.self.inside.edges) (c.args.source.now, c.args.id.now) c.self.inside.order (stand c.self.invariant) ∙ ap (option_and_then (slab.get c.self.inside.edges)) found)
    ∙ ap (edge_at c.args.source.now c.args.id.now) c.self.view_is
