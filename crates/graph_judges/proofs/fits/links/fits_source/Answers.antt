use Rattle.std.proofs.Common.{◌↔◌, Bool}
use Rattle.std.specs.Prelude.{IsTrue}
use Rattle.std.proofs.lemmas.Result.{IfOk-weaker}
use Rattle.graph_steps.specs.Inherited.{contents}
use Rattle.graph_steps.specs.States.{set_of}
use Rattle.graph_steps.specs.Typed.{FitsSource}
use Rattle.graph_steps.specs.held.Held.{link_of, state_of}
use Rattle.graph_judges.specs.fits.Machinery.Judged.{with_given, SuitsAmong}
use Rattle.graph_judges.proofs.fits.OneLink.{fits_iff}
use Rattle.graph_judges.proofs.fits.links.fits_source.Goals as goal

pub returns-then-branch-clause-fits : goal.returns-then-branch-clause-fits
returns-then-branch-clause-fits c =
    IfOk-weaker c.suits_declared.result
    (λ (b : Bool). IsTrue b ↔ SuitsAmong (with_given c.args.twin.now c.args.lent.now) (contents (set_of (state_of c.args.lent.now)) c.args.interface.now) (link_of c.args.edge.now))
    (λ (b : Bool). IsTrue b ↔ FitsSource (with_given c.args.twin.now c.args.lent.now) c.args.interface.now (link_of c.args.edge.now))
    (λ b iff. fits_iff (with_given c.args.twin.now c.args.lent.now) c.args.interface.now (link_of c.args.edge.now) b (c.in_ok-is_unbroken.ensures.unbroken.0 c.if-branch.true) iff)
    c.suits_declared.ensures.suits
