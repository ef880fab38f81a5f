use Rattle.std.proofs.Common.{◌∙◌, sym, ap, subst, true≢false}
use Rattle.json_tree.specs.Values.{Json, HasDistinctKeys}
use Rattle.json_tree.specs.View.{view}
use Rattle.twin_value.specs.Breaches.{HasNoBreach, IsTwinBreach}
use Rattle.graph_steps.specs.bodies.Kept.{twin_view}
use Rattle.graph_steps.proofs.bodies.Keys.{sorted_again}
use Rattle.graph_steps.proofs.bodies.Patching.{sorted_distinct}
use Rattle.graph_steps.specs.Inherited.{inherited}
use Rattle.graph_steps.specs.States.{set_of, twin_object, twin_value}
use Rattle.graph_steps.specs.TwinAsks.{twin_for}
use Rattle.graph_steps.specs.held.Held.{state_of}
use Rattle.graph_judges.proofs.fits.Fitting.{AreRead, fits_read, read_fits}
use Rattle.graph_judges.proofs.fits.OneLink.{not_clear}
use Rattle.graph_judges.proofs.fits.twins.twin_fits.Goals as goal

pub judged_twin-judged-requires-clause-distinct : goal.judged_twin-judged-requires-clause-distinct
judged_twin-judged-requires-clause-distinct c = subst HasDistinctKeys (sym c.in_ok-tree.ensures) (sorted_distinct (twin_value (twin_view c.args.twin.now)) (sorted_again (twin_object (twin_view c.args.twin.now))))

pub returns-in-Ok-clause-fits : goal.returns-in-Ok-clause-fits
returns-in-Ok-clause-fits c =
    let same = c.in-Ok.ensures.twin.1 ∙ ap (twin_for (state_of c.args.lent.now) c.args.twin.now.id c.args.interface.now) c.in_ok-tree.ensures in (
      λ h. fits_read (state_of c.args.lent.now) c.args.interface.now (twin_view c.args.twin.now)
          (subst (λ (v : Json). HasNoBreach (IsTwinBreach (inherited (set_of (state_of c.args.lent.now)) c.args.interface.now) v)) c.in_ok-tree.ensures c.in-Ok.ensures.twin.0)
          (subst (AreRead (state_of c.args.lent.now) c.args.interface.now (twin_view c.args.twin.now)) same (c.have_same_names-same.ensures.0 h)),
      λ f. c.have_same_names-same.ensures.1 (subst (AreRead (state_of c.args.lent.now) c.args.interface.now (twin_view c.args.twin.now)) (sym same) (read_fits (state_of c.args.lent.now) c.args.interface.now (twin_view c.args.twin.now) c.requires.kept f)),
    )

pub returns-in_ok-refused-in-Err-clause-fits : goal.returns-in_ok-refused-in-Err-clause-fits
returns-in_ok-refused-in-Err-clause-fits c = (
  λ h. absurd (true≢false (sym h)),
  λ f. absurd (not_clear (IsTwinBreach (inherited (set_of (state_of c.args.lent.now)) c.args.interface.now) (view c.in_ok-tree.tree)) (view c.in_ok-tree.tree) c.in-Err.failure c.in_ok-refused-in-Err.ensures.0 c.in_ok-refused-in-Err.ensures.1 c.in-Err.ensures.twin
      (subst (λ (v : Json). HasNoBreach (IsTwinBreach (inherited (set_of (state_of c.args.lent.now)) c.args.interface.now) v)) (sym c.in_ok-tree.ensures) f.unbroken)),
)
