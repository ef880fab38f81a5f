use Rattle.twin_value.specs.declared.twin.Twin.{Twin}
use Rattle.graph_steps.specs.bodies.Kept.{twin_view}
use Rattle.graph_steps.specs.held.Held.{state_of}
use Rattle.graph_judges.specs.fits.Machinery.Judged.{Misfits}
use Rattle.graph_judges.proofs.fits.Least.{first_none}
use Rattle.graph_judges.proofs.fits.misfits.first_misfit.Goals as goal

pub returns-clause-first : goal.returns-clause-first
returns-clause-first c = c.twins.invariant.0 _ (first_none (λ (t : Twin). Misfits (state_of c.args.lent.now) (twin_view t)) c.twins.twin-iterator c.in-None.ensures.steps.0)
