use Rattle.std.proofs.Common.{refl, sym, subst, true≢false}
use Rattle.json_tree.specs.Values.{Json, HasDistinctKeys}
use Rattle.json_tree.specs.View.{view}
use Rattle.twin_value.specs.Breaches.{HasNoBreach, IsLinkBreach}
use Rattle.graph_steps.proofs.bodies.Keys.{sorted_again}
use Rattle.graph_steps.proofs.bodies.Patching.{sorted_distinct}
use Rattle.graph_steps.specs.Inherited.{inherited}
use Rattle.graph_steps.specs.States.{link_object, link_value, set_of}
use Rattle.graph_steps.specs.held.Held.{link_of, state_of}
use Rattle.graph_judges.proofs.fits.OneLink.{not_clear}
use Rattle.graph_judges.proofs.fits.links.is_unbroken.Goals as goal

pub judged_link-judged-requires-clause-distinct : goal.judged_link-judged-requires-clause-distinct
judged_link-judged-requires-clause-distinct c = subst HasDistinctKeys (sym c.in_ok-tree.ensures) (sorted_distinct (link_value (link_of c.args.edge.now)) (sorted_again (link_object (link_of c.args.edge.now))))

pub returns-in-Ok-clause-unbroken : goal.returns-in-Ok-clause-unbroken
returns-in-Ok-clause-unbroken c = (
  λ h. subst (λ (v : Json). HasNoBreach (IsLinkBreach (inherited (set_of (state_of c.args.lent.now)) c.args.interface.now) v)) c.in_ok-tree.ensures c.in-Ok.ensures.link.0,
  λ h. refl,
)

pub returns-in_ok-refused-in-Err-clause-unbroken : goal.returns-in_ok-refused-in-Err-clause-unbroken
returns-in_ok-refused-in-Err-clause-unbroken c = (
  λ h. absurd (true≢false (sym h)),
  λ clear. absurd (not_clear (IsLinkBreach (inherited (set_of (state_of c.args.lent.now)) c.args.interface.now) (view c.in_ok-tree.tree)) (view c.in_ok-tree.tree) c.in-Err.failure c.in_ok-refused-in-Err.ensures.0 c.in_ok-refused-in-Err.ensures.1 c.in-Err.ensures.link
      (subst (λ (v : Json). HasNoBreach (IsLinkBreach (inherited (set_of (state_of c.args.lent.now)) c.args.interface.now) v)) (sym c.in_ok-tree.ensures) clear)),
)
