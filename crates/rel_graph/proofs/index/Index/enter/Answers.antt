use Rattle.std.proofs.Common.{List, ℕ, ap, ◌∙◌}
use Rattle.std.specs.Map.{lookup}
use Rattle.std.specs.BTreeMap.{is_at, insert_entry}
use Rattle.ordered_table.proofs.Ordered.{lookup-insert}
use Rattle.rel_graph.specs.Slots.{link_cmp}
use Rattle.rel_graph.proofs.Tallies.{links_total}
use Rattle.rel_graph.proofs.index.Index.enter.Goals as goal

pub returns-in-Ok-clause-links : goal.returns-in-Ok-clause-links
returns-in-Ok-clause-links g c = λ q.
    let links = c.args.self.now.links in
    let to : List ℕ = c.args.edge.now.target in
    let entered = c.in-Ok.ensures.ok
    ∙ ap (λ s. insert_entry link_cmp links (to, (s, c.in_ok-id.id)) c.args.slot) c.in_ok-source.ensures
    ∙ ap (λ i. insert_entry link_cmp links (to, (c.args.edge.now.source, i)) c.args.slot) c.in_ok-id.ensures in
    ap (lookup (is_at (link_cmp q))) entered
    ∙ lookup-insert links_total q (to, (c.args.edge.now.source, c.args.edge.now.id)) c.args.slot links
