use Rattle.std.proofs.Common.{Some, sym, ◌∙◌, subst, true≢false}
use Rattle.std.specs.List.{AllByRecursion}
use Rattle.rel_graph.specs.declared.edge.Edge.{Edge}
use Rattle.graph_steps.specs.bodies.Kept.{IsKeptLink}
use Rattle.graph_steps.specs.Typed.{LinkIsTyped}
use Rattle.graph_steps.specs.held.Held.{link_of}
use Rattle.graph_steps.specs.declared.held.stored.Stored.{Stored}
use Rattle.graph_judges.specs.fits.Machinery.Judged.{with_given}
use Rattle.graph_judges.proofs.fits.Least.{first_none, first_bad, first_later}
use Rattle.graph_judges.proofs.fits.ends.first_ill.Goals as goal

pub returns-then-not-fits-clause-first : goal.returns-then-not-fits-clause-first
returns-then-not-fits-clause-first g c =
    c.edges.invariant.0 (Some c.in-Some.edge.now)
    (first_bad (λ (e : Edge Stored). LinkIsTyped (with_given c.args.twin.now c.args.lent.now) (link_of e) → ⊥) c.edges.edge-iterator c.in-Some.edge.now c.next.new.self c.in-Some.ensures.steps
    (λ typed. true≢false (sym (c.in_ok-fits.ensures.fits.1 typed) ∙ c.if-not-fits.true)))

pub edges-preserved : goal.edges-preserved
edges-preserved g c = (
  λ o first. c.edges.invariant.0 o
      (first_later (λ (e : Edge Stored). LinkIsTyped (with_given c.args.twin.now c.args.lent.now) (link_of e) → ⊥) c.edges.edge-iterator c.in-Some.edge.now c.next.new.self c.in-Some.ensures.steps
      (λ no. no (c.in_ok-fits.ensures.fits.0 c.if-not-fits.false)) o first),
  (subst (AllByRecursion (λ (e : Edge Stored). IsKeptLink (link_of e))) c.in-Some.ensures.steps c.edges.invariant.1).1,
  c.link_fits.ensures.right,
)

pub returns-clause-first : goal.returns-clause-first
returns-clause-first g c = c.edges.invariant.0 _ (first_none (λ (e : Edge Stored). LinkIsTyped (with_given c.args.twin.now c.args.lent.now) (link_of e) → ⊥) c.edges.edge-iterator c.in-None.ensures.steps.0)
