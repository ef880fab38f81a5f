use Rattle.std.proofs.Common.{◌≡◌}
use Rattle.graph_steps.specs.bodies.Kept.{twin_view}
use Rattle.graph_steps.specs.held.Held.{state_of}
use Rattle.graph_steps.specs.States.{with_twin}
use Rattle.graph_steps.specs.TwinAsks.{DoesNotFit, TwinFull}
use Rattle.graph_judges.specs.declared.twins.new_twin.NewTwin.{NewTwin}
use Rattle.graph_judges.proofs.twins.Judged.{judged_second}
use Rattle.graph_judges.proofs.twins.body.judged_new.Goals as goal

pub returns-clause-judged : goal.returns-clause-judged
returns-clause-judged c =
    let new = with_twin (twin_view c.args.twin) (state_of c.args.lent.now) in
    judged_second (λ (n : NewTwin). n.twin ≡ c.args.twin) (DoesNotFit new c.args.twin.id) (TwinFull new (twin_view c.args.twin)) c.in_ok-unless_unfit.ensures.fits c.within_limits.result c.within_limits.ensures.full
