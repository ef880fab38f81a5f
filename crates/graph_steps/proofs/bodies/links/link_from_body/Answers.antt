use Rattle.std.proofs.Common.{subst, sym, ap, ◌∙◌}
use Rattle.json_tree.specs.View.{view}
use Rattle.json_tree.specs.declared.tree.Tree.{Tree}
use Rattle.rel_graph.specs.declared.edge.Edge.{Edge}
use Rattle.twin_value.specs.Breaches.{IsLinkBreach}
use Rattle.graph_steps.specs.bodies.Kept.{link_view, IsKeptLink}
use Rattle.graph_steps.proofs.bodies.Faults.{link_somewhere, end_somewhere}
use Rattle.graph_steps.proofs.bodies.Reading.{link_is_for, link_kept, link_clear, link_fails}
use Rattle.graph_steps.proofs.bodies.links.link_from_body.Goals as goal

pub failure_of-requires : goal.failure_of-requires
failure_of-requires c =
    end_somewhere (IsLinkBreach c.args.resolved.now (view c.args.tree.now)) (view c.args.tree.now) (link_somewhere c.args.resolved.now (view c.args.tree.now)) c.in-Err.end c.in-Err.ensures

pub returns-in-Err-clause-link : goal.returns-in-Err-clause-link
returns-in-Err-clause-link c = λ s i is. link_fails s i c.args.resolved.now is (view c.args.tree.now) c.in-Err.end c.failure_of.result c.in-Err.ensures c.failure_of.ensures

pub returns-in_ok-link-in-Ok-clause-link : goal.returns-in_ok-link-in-Ok-clause-link
returns-in_ok-link-in-Ok-clause-link c = λ s i is. (
  link_clear s i c.args.resolved.now is (view c.args.tree.now) c.in-Ok.ensures.0,
  ap (λ (e : Edge Tree). link_view e) c.in_ok-link-in-Ok.ensures
      ∙ link_is_for s i c.args.resolved.now is c.args.source.now c.args.id.now c.args.name.now c.args.target.now (view c.args.tree.now) c.in-Ok.link c.requires c.in-Ok.ensures.1,
)

pub returns-in_ok-link-in-Ok-clause-kept : goal.returns-in_ok-link-in-Ok-clause-kept
returns-in_ok-link-in-Ok-clause-kept c =
    subst (λ (e : Edge Tree). IsKeptLink (link_view e)) (sym c.in_ok-link-in-Ok.ensures)
    (link_kept c.args.resolved.now c.args.source.now c.args.id.now c.args.name.now c.args.target.now (view c.args.tree.now) c.in-Ok.link c.requires c.in-Ok.ensures.1)
