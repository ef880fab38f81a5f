use Rattle.std.proofs.Common.{List, refl, sym, ap, ◌∙◌, subst}
use Rattle.std.specs.List.{AllByRecursion}
use Rattle.std.specs.Option.{option_copied}
use Rattle.rel_graph.specs.Edges.{EdgesInOrder, is_from, is_into, out_of, into_of}
use Rattle.rel_graph.specs.declared.edge.Edge.{Edge}
use Rattle.graph_steps.specs.bodies.Kept.{twin_view, IsKeptLink}
use Rattle.graph_steps.specs.States.{with_twin}
use Rattle.graph_steps.specs.Typed.{LinkIsTyped}
use Rattle.graph_steps.specs.held.Held.{link_of, state_of}
use Rattle.graph_steps.specs.declared.held.stored.Stored.{Stored}
use Rattle.graph_judges.specs.fits.Ill.{IsLeastIll}
use Rattle.graph_judges.specs.fits.Machinery.Firsts.{IsFirstOf}
use Rattle.graph_judges.specs.fits.Machinery.Judged.{with_given}
use Rattle.graph_judges.proofs.fits.LeastEnds.{ends_least, kept_passing}
use Rattle.graph_judges.proofs.fits.ends.least_ill.Goals as goal

pub first_ill-requires-clause-kept : goal.first_ill-requires-clause-kept
first_ill-requires-clause-kept c =
    subst (AllByRecursion (λ (e : Edge Stored). IsKeptLink (link_of e))) (sym (c.out.ensures ∙ ap (out_of c.args.twin.now.id) c.links-links.ensures))
    (kept_passing (is_from c.args.twin.now.id) c.args.lent.now.links c.right.ensures.links)

pub first_ill-requires-2-clause-kept : goal.first_ill-requires-2-clause-kept
first_ill-requires-2-clause-kept c =
    subst (AllByRecursion (λ (e : Edge Stored). IsKeptLink (link_of e))) (sym (c.into.ensures ∙ ap (into_of c.args.twin.now.id) c.links-links.ensures))
    (kept_passing (is_into c.args.twin.now.id) c.args.lent.now.links c.right.ensures.links)

pub returns-clause-least : goal.returns-clause-least
returns-clause-least c =
    subst (IsLeastIll (with_twin (twin_view c.args.twin.now) (state_of c.args.lent.now)) c.args.twin.now.id) (sym c.lesser_edge.ensures)
    (ends_least (with_twin (twin_view c.args.twin.now) (state_of c.args.lent.now)) c.args.twin.now.id c.args.lent.now.links refl
    (subst (λ (es : List (Edge Stored)). EdgesInOrder es) c.links-links.ensures c.len-many.ensures.ordered) (option_copied c.in_ok-out.out) (option_copied c.in_ok-into.into)
    (subst (λ (es : List (Edge Stored)). IsFirstOf (λ (e : Edge Stored). LinkIsTyped (with_given c.args.twin.now c.args.lent.now) (link_of e) → ⊥) es (option_copied c.in_ok-out.out)) (c.out.ensures ∙ ap (out_of c.args.twin.now.id) c.links-links.ensures) c.in_ok-out.ensures.first)
    (subst (λ (es : List (Edge Stored)). IsFirstOf (λ (e : Edge Stored). LinkIsTyped (with_given c.args.twin.now c.args.lent.now) (link_of e) → ⊥) es (option_copied c.in_ok-into.into)) (c.into.ensures ∙ ap (into_of c.args.twin.now.id) c.links-links.ensures) c.in_ok-into.ensures.first))
