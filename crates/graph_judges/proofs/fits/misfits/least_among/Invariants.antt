use Rattle.std.proofs.Common.{take}
use Rattle.std.specs.Option.{option_copied}
use Rattle.std.specs.Ordering.{nat_cmp}
use Rattle.std.specs.Cmp.Lexicographic.{slice_cmp}
use Rattle.model_life.specs.resolution.Resolving.{HoldsRight}
use Rattle.graph_steps.specs.States.{set_of}
use Rattle.graph_steps.specs.held.Held.{state_of}
use Rattle.graph_judges.specs.fits.Machinery.Firsts.{IsLeastOf}
use Rattle.graph_judges.specs.fits.Machinery.Judged.{MisfitsAmong}
use Rattle.graph_judges.proofs.fits.misfits.least_among.Given as goal

-- the least of those of the models so far
abbrev pub invariant-uploads : goal.invariant-uploads
invariant-uploads l =
    IsLeastOf (λ a b. slice_cmp nat_cmp a.id b.id) (MisfitsAmong l.lent (take l.upload-index l.new)) (option_copied l.least)
    × HoldsRight (set_of (state_of l.lent)) l.resolutions
