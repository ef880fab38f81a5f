use Rattle.std.proofs.Common.{◌↔◌, ◌∙◌, Bool, sym, subst}
use Rattle.std.specs.Prelude.{IsTrue}
use Rattle.std.specs.Option.{option_copied}
use Rattle.graph_steps.specs.bodies.Kept.{twin_view}
use Rattle.graph_steps.specs.held.Held.{state_of}
use Rattle.graph_judges.specs.fits.Machinery.Judged.{Misfits}
use Rattle.graph_judges.proofs.fits.Unfit.{by_ends, some_copied}
use Rattle.graph_judges.proofs.fits.misfits.misfits.Goals as goal

pub returns-then-branch-clause-misfits : goal.returns-then-branch-clause-misfits
returns-then-branch-clause-misfits c =
    subst (λ (b : Bool). IsTrue b ↔ Misfits (state_of c.args.lent.now) (twin_view c.args.twin.now)) (some_copied c.in_ok-ill.ill ∙ sym c.is_some.ensures)
    (by_ends c.args.lent.now c.args.interface.now c.args.twin.now c.requires.stands (c.in_ok-twin_fits.ensures.fits.0 c.if-branch.true) (option_copied c.in_ok-ill.ill) c.in_ok-ill.ensures.least)
