use Rattle.std.proofs.Common.{arith, below_more, sym}
use Rattle.dt_base.proofs.names.Runs.{goes, stops}
use Rattle.dt_base.proofs.names.walk.walk.Goals as goal

pub returns-in-None : goal.returns-in-None
returns-in-None c =
    let i = c.loop-at.invariant in
    (omega arith, i.here, stops _ c.loop-at.state _ _ _ (omega arith) c.requires.room i.here (sym c.in-None.ensures), i.before)

pub loop-at-preserved : goal.loop-at-preserved
loop-at-preserved c =
    let i = c.loop-at.invariant in
    let g = goes _ c.loop-at.state _ _ _ _ (omega arith) c.requires.room i.here (sym c.in-Some.ensures) in
    record { here = g.here; fits = g.fits; before = below_more _ _ i.before g.lives }
