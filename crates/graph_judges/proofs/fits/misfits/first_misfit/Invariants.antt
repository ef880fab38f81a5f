use Rattle.std.proofs.Common.{Option}
use Rattle.std.specs.List.{AllByRecursion}
use Rattle.model_life.specs.resolution.Resolving.{HoldsRight}
use Rattle.twin_value.specs.declared.twin.Twin.{Twin}
use Rattle.graph_steps.specs.bodies.Kept.{twin_view}
use Rattle.graph_steps.specs.States.{set_of}
use Rattle.graph_steps.specs.held.Held.{state_of}
use Rattle.graph_judges.specs.fits.Machinery.Firsts.{IsFirstOf}
use Rattle.graph_judges.specs.fits.Machinery.Judged.{Misfits, StandsLive}
use Rattle.graph_judges.proofs.fits.misfits.first_misfit.Given as goal

-- the first of those that are still to come is the first of all
abbrev pub invariant-twins : goal.invariant-twins
invariant-twins l =
    ((o : Option Twin) → IsFirstOf (λ t. Misfits (state_of l.lent) (twin_view t)) l.twin-iterator o → IsFirstOf (λ t. Misfits (state_of l.lent) (twin_view t)) l.fn.listing o)
    × AllByRecursion (StandsLive l.lent l.interface) l.twin-iterator
    × HoldsRight (set_of (state_of l.lent)) l.resolutions
