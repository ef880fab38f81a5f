use Rattle.std.proofs.Common.{◌∙◌, [], ◌∷◌, map, sym, ap, subst, Bor}
use Rattle.std.specs.List.{AllByRecursion}
use Rattle.rel_graph.specs.declared.edge.Edge.{Edge}
use Rattle.graph_asks.specs.Answers.{body}
use Rattle.graph_steps.specs.bodies.Kept.{IsKeptLink}
use Rattle.graph_steps.specs.ListAsks.{into_links}
use Rattle.graph_steps.specs.Pages.{page_value}
use Rattle.graph_steps.specs.States.{Link, link_value}
use Rattle.graph_steps.specs.held.Held.{state_of, link_of}
use Rattle.graph_steps.specs.declared.held.stored.Stored.{Stored}
use Rattle.graph_machine.proofs.Pages.{page_decided}
use Rattle.graph_machine.proofs.Told.{weaker}
use Rattle.graph_machine.proofs.machine.Machine.into_page.Goals as goal

pub into_tree-requires : goal.into_tree-requires
into_tree-requires c = subst (AllByRecursion (λ (e : Bor (Edge Stored)). IsKeptLink (link_of e.now))) (sym c.as_slice.ensures.value) c.in_ok-first.ensures.kept

pub returns : goal.returns
returns c =
    weaker c.into_tree.result _ _ (λ tree h. ap (λ v. body v)
    (h
    ∙ ap (λ es. page_value (map (λ (e : Bor (Edge Stored)). (e.now.source ∷ e.now.id ∷ [], link_value (link_of e.now))) es)) c.as_slice.ensures.value
    ∙ page_decided (λ (l : Link). (l.source ∷ l.id ∷ [], link_value l)) (into_links (state_of c.args.self.now) c.args.target.now c.args.after.now) c.in_ok-first.first.items c.in_ok-first.ensures.edges))
    c.into_tree.ensures
