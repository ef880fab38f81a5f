use Rattle.std.proofs.Common.{Bor, drop, arith}
use Rattle.rel_graph.specs.declared.edge.Edge.{Edge}
use Rattle.graph_steps.specs.declared.held.stored.Stored.{Stored}
use Rattle.std.proofs.Math.ListN.{drop_of_length-le}
use Rattle.json_tree.specs.View.{view}
use Rattle.graph_steps.specs.States.{link_value}
use Rattle.graph_steps.specs.held.Held.{link_of}
use Rattle.graph_machine.proofs.Pages.{first_page, whole_page}
use Rattle.graph_machine.proofs.rows.rows.Goals as goal

pub returns-then-len-eq-MOST_ROWS : goal.returns-then-len-eq-MOST_ROWS
returns-then-len-eq-MOST_ROWS c =
    first_page view (λ (e : Bor (Edge Stored)). link_value (link_of e.now)) c.edges.trees.items (drop c.edges.edge-index c.args.first.now) c.args.first.now c.edges.invariant.0 (let full = c.if-len-eq-MOST_ROWS.true in let long = c.len.ensures in omega (arith, full, long))

pub returns : goal.returns
returns c =
    whole_page view (λ (e : Bor (Edge Stored)). link_value (link_of e.now)) c.edges.trees.items (drop c.edges.edge-index c.args.first.now) c.args.first.now c.edges.invariant.0 (drop_of_length-le c.args.first.now c.edges-test.false) c.edges.invariant.1
